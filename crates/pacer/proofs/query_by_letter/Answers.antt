-- `query_by_letter` meets its contract: the letter names the bound, or refuses. Assumes nothing.
use Prim.Native.Nat.{ℕ}
use mathlib.Core.List.{List}
use mathlib.Core.Path.{◌≡◌, sym, ap, ◌∙◌}
use lib.ListN.{length}
use Rattle.model.specs.Common.{option_of}
use Rattle.model.specs.Questions.{Outcome}
use Rattle.model.specs.Calls.{Counts, letter_outcome, letter_slot}
use Rattle.model.specs.Demands.{LetterPromise}
use Rattle.theory.proofs.Demands.{letter_promise}
use Rattle.pacer.proofs.Answering.{by_letter, no_letter}
use Rattle.pacer.proofs.query_by_letter.Goals as goal

-- what is said and what the slot holds, with what they promise
kept : (kind letter x width : ℕ) (log slot : List ℕ) {said : Outcome Counts} {after : List ℕ}
    → said ≡ letter_outcome kind letter x width log (length slot) → after ≡ letter_slot kind letter x width log slot
    → record {
      says : said ≡ letter_outcome kind letter x width log (length slot);
      holds : after ≡ letter_slot kind letter x width log slot;
      promise : LetterPromise kind letter x width log slot said after;
    }
kept kind letter x width log slot {said} {after} answers left =
    record { says = answers; holds = left; promise = letter_promise kind letter x width log slot said after answers left }

pub returns-in-Some : goal.returns-in-Some
unfolding option_of
returns-in-Some c =
    let a = c.args in
    let e = c.query_by_bound.ensures in
    let says = by_letter a.kind a.letter a.bound a.width a.log.now a.slot.now _ (sym c.bound_of.ensures ∙ ap option_of c.in-Some.is) in
    kept a.kind a.letter a.bound a.width a.log.now a.slot.now (e.says ∙ says.0) (e.holds ∙ says.1)

pub returns-in-None : goal.returns-in-None
unfolding option_of
returns-in-None c =
    let a = c.args in
    let says = no_letter a.kind a.letter a.bound a.width a.log.now a.slot.now (sym c.bound_of.ensures ∙ ap option_of c.in-None.is) in
    kept a.kind a.letter a.bound a.width a.log.now a.slot.now (c.refuse_letter.ensures ∙ says.0) says.1
