-- `report` meets its contract: too long, too short, or a query. Assumes nothing.
use Prim.Native.Nat.{ℕ, ◌-◌, ◌≤◌}
use mathlib.Core.List.{List}
use mathlib.Core.Path.{◌≡◌, sym, ◌∙◌}
use native.Mathlib.Omega.{arith}
use borrow.Author.Tests.{lt-ltb, le-ltb}
use lib.ListN.{length, drop, take, length-drop}
use lib.Seq.{take_all, length-take-le}
use Rattle.model.specs.Calls.{number}
use Rattle.report.specs.Report.{profile_text, most_input, head_length}
use Rattle.report.proofs.report.Goals as goal

-- a count of bytes at the start of a list
counts : (r : ℕ) (out : List ℕ) → r ≤ length out → (r ≤ length out) × (r ≡ length (take r out))
counts r out le = (le, sym (length-take-le r out le))

pub returns-then-input-gt65536 : goal.returns-then-input-gt65536
unfolding profile_text most_input number
returns-then-input-gt65536 c =
    let e = c.refuse.ensures in
    record {
      counts = counts _ _ e.0;
      prints = e.1 ∙ simp (lt-ltb _ _ c.if-input-gt65536.true);
    }

pub returns-then-input-lt4 : goal.returns-then-input-lt4
unfolding profile_text most_input head_length number
returns-then-input-lt4 c =
    let e = c.refuse-then-input-lt4.ensures in
    record {
      counts = counts _ _ e.0;
      prints = e.1 ∙ simp (le-ltb _ _ c.if-input-gt65536.false, lt-ltb _ _ c.if-input-lt4.true);
    }

pub returns : goal.returns
unfolding profile_text most_input head_length
returns c =
    let input : List ℕ = c.args.input.now in
    let e = c.answer.ensures in
    let log : take (length input - 4) (drop 4 input) ≡ drop 4 input = take_all (length input - 4) (drop 4 input) (omega (arith, length-drop 4 input)) in
    record {
      counts = counts _ _ e.0;
      prints = e.1 ∙ simp (le-ltb _ _ c.if-input-gt65536.false, le-ltb _ _ c.if-input-lt4.false, c.two.ensures, log);
    }
