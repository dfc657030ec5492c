-- `Kind::try_from` meets its contract: question 2's answer. Assumes nothing.
use mathlib.Core.Bool.{true}
use mathlib.Core.Path.{◌≡◌, refl, sym, ap, ◌∙◌}
use native.Mathlib.Omega.{arith}
use Rattle.std.proofs.lemmas.Bool.{lt-leb}
use Rattle.model.specs.Questions.{ask, outcome, kind_known}
use Rattle.model.specs.Calls.{number, answer_case, kind_number}
use Rattle.model.specs.declared.Kind.{Kind}
use Rattle.model.specs.declared.Kind.TheVariants as kind
use Rattle.model.specs.declared.other.OtherKind.{OtherKind}
use Rattle.model.proofs.KindTryFromU8.try_from.Goals as goal

-- the paper's kinds are known
known : (k : Kind) → ((other : OtherKind) → k ≡ kind.Other other → ⊥) → kind_known (kind_number k) ≡ true
unfolding kind_known kind_number
known kind.Sum not_other = refl
known kind.Count not_other = refl
known kind.Least not_other = refl
known kind.Greatest not_other = refl
known kind.Mean not_other = refl
known (kind.Other other) not_other = absurd (not_other other refl)

pub returns-in-Other : goal.returns-in-Other
unfolding answer_case number kind_number outcome ask kind_known
returns-in-Other c = rw (lt-leb c.args.kind 4 (omega (arith, c.in-Other.field-0.above, c.in-Other.ensures)))

pub returns-in_default : goal.returns-in_default
unfolding answer_case number kind_number outcome ask
returns-in_default c =
    rw (c.of.ensures, ap kind_known (sym c.of.ensures) ∙ known c.of.result c.in_default.not-Other)
