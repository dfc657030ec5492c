-- `twins::is_new` meets its contract: where no key ahead has the remainder, none is equal; and where the record that is noted for the
-- remainder has the same key, one is. Assumes nothing.
use Prim.Native.Nat.{ℕ, ◌+◌, ◌-◌, ◌%◌, ◌≤◌}
use mathlib.Core.Path.{◌≡◌, sym, ap, ◌∙◌, subst}
use native.Mathlib.Omega.{arith}
use lib.ListN.{get_or, set}
use Rattle.twins.specs.Keys.{key_of, Noted}
use Rattle.twins.proofs.Keys.{new_remainder, old_key, noted_more, noted_still}
use Rattle.twins.proofs.is_new.Goals as goal
use Rattle.twins.proofs.is_new.Goals.{After-from-first}

-- what is noted for the key's remainder, and that it is no more than the records ahead
noted : (w : After-from-first)
    →
    (w.from-first.result ≡ get_or w.args.firsts.now (key_of w.args.log.now w.args.index % 1021) 0) × (w.from-first.result ≤ w.args.index)
noted w =
    let is = w.from-first.ensures ∙ ap (λ (x : ℕ). get_or w.args.firsts.now (x % 1021) 0) w.key-own.ensures in
    (is, omega (arith, w.requires.noted_ahead.within (key_of w.args.log.now w.args.index % 1021)))

pub returns-then-first-eq0 : goal.returns-then-first-eq0
returns-then-first-eq0 c =
    let log = c.args.log.now in
    let firsts = c.args.firsts.now in record {
      tells = sym (new_remainder log c.args.index firsts c.requires.noted_ahead (sym (noted (goal.at.returns-then-first-eq0 c).After-from-first).0 ∙ c.if-first-eq0.true));
      noted = subst (λ (x : ℕ). Noted log (c.args.index + 1) (set firsts (x % 1021) (c.args.index + 1))) (sym c.key-own.ensures)
          (noted_more log c.args.index firsts c.requires.noted_ahead);
    }

pub key-requires : goal.key-requires
key-requires c = omega (arith, (noted (goal.at.key-requires c).After-from-first).1)

pub returns-then-key-own : goal.returns-then-key-own
returns-then-key-own c =
    record {
      tells = sym (old_key c.args.log.now c.args.index (c.from-first.result - 1) (omega (arith, (noted (goal.at.returns-then-key-own c).After-from-first).1))
          (sym c.key.ensures ∙ c.if-key-own.true ∙ c.key-own.ensures));
      noted = noted_still c.args.log.now c.args.index c.args.firsts.now c.requires.noted_ahead (λ none. c.if-first-eq0.false ((noted (goal.at.returns-then-key-own c).After-from-first).0 ∙ none));
    }

pub returns : goal.returns
returns c =
    record {
      tells = c.differs.ensures;
      noted = noted_still c.args.log.now c.args.index c.args.firsts.now c.requires.noted_ahead (λ none. c.if-first-eq0.false ((noted (goal.at.returns c).After-from-first).0 ∙ none));
    }
