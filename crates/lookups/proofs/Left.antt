-- What is written for a pair, and what a call leaves in the two lists: as they were where it is refused, and else what is written for
-- every pair. Assumes nothing.
use Prim.Native.Nat.{ℕ}
use mathlib.Core.List.{List}
use mathlib.Core.Option.{Option}
use mathlib.Core.Path.{◌≡◌, refl, sym, ◌∙◌}
use lib.ListN.{length}
use mir.Val.{bool_byte}
use Rattle.std.specs.Prelude as code
use Rattle.std.specs.Prelude.{None, Some}
use Rattle.std.specs.Option.{unwrap_or, is_some}
use Rattle.model.specs.Common.{option_of}
use Rattle.model.specs.Questions.{Outcome, refused, accepted}
use Rattle.model.specs.Lookups.{lookups_questions, lookups_outcome, value_shown, covered_shown, pairs_shown, lookups_list, lookups_values, lookups_covered}
use Rattle.model.specs.Demands.{LookupsPromise}
use Rattle.theory.proofs.Refusals.{passed_lent, refused_lent}
use Rattle.theory.proofs.Lookups.{lookups_promise}

-- the value that is written for what was found, and the flag
pub value_written : (found : code.Option ℕ) → unwrap_or found 0 ≡ value_shown (option_of found)
unfolding option_of value_shown
value_written None = refl
value_written (Some value) = refl

pub flag_written : (found : code.Option ℕ) → bool_byte (is_some found) ≡ covered_shown (option_of found)
unfolding option_of covered_shown
flag_written None = refl
flag_written (Some value) = refl

module _ (slot groups frames values covered : List ℕ) (said : Outcome (Unit {0}))
    (is : said ≡ lookups_outcome slot groups (length frames) (length values) (length covered)) where
  -- what is said is as defined, and with lists left as defined the promise is kept
  abbrev Leaves : List ℕ → List ℕ → Type 0
  Leaves values_after covered_after = record {
    says : said ≡ lookups_outcome slot groups (length frames) (length values) (length covered);
    found : values_after ≡ lookups_values slot groups frames values covered;
    flagged : covered_after ≡ lookups_covered slot groups frames values covered;
    promise : LookupsPromise slot groups frames values covered said values_after covered_after;
  }

  leaves : (values_after covered_after : List ℕ) → values_after ≡ lookups_values slot groups frames values covered
      → covered_after ≡ lookups_covered slot groups frames values covered → Leaves values_after covered_after
  leaves values_after covered_after v c = record {
    says = is;
    found = v;
    flagged = c;
    promise = rw (is, v, c) (lookups_promise slot groups frames values covered);
  }

  -- one of the lists
  module _ (shown : Option ℕ → ℕ) (list : List ℕ) where
    abbrev after : List ℕ
    after = lookups_list shown slot groups frames (length values) (length covered) list

    untouched : (said ≡ accepted tt → ⊥) → list ≡ after
    unfolding lookups_outcome lookups_list
    untouched refuses = by said refl
      where
        by : (o : Outcome (Unit {0})) → said ≡ o → list ≡ after
        by (accepted u) e = absurd (refuses e)
        by (refused n i) e = sym (refused_lent (lookups_questions slot groups (length frames) (length values) (length covered)) tt n i _ _ (sym is ∙ e))

    written : said ≡ accepted tt → pairs_shown shown slot groups frames list ≡ after
    unfolding lookups_outcome lookups_list
    written e = sym (passed_lent (lookups_questions slot groups (length frames) (length values) (length covered)) tt _ _ (sym is ∙ e))

  pub refused_leaves : (said ≡ accepted tt → ⊥) → Leaves values covered
  unfolding lookups_values lookups_covered
  refused_leaves refuses = leaves values covered (untouched value_shown values refuses) (untouched covered_shown covered refuses)

  pub passed_leaves : said ≡ accepted tt
      → Leaves (pairs_shown value_shown slot groups frames values) (pairs_shown covered_shown slot groups frames covered)
  unfolding lookups_values lookups_covered
  passed_leaves e = leaves _ _ (written value_shown values e) (written covered_shown covered e)
