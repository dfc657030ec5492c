-- The guarantee of demand 3, stated once over whatever is chosen: which choices fit, how many rows a choice has, and what its
-- error is. For a query the choices are the lists of rows (`row_lists` of `Fitting`).
use Rattle.std.specs.Prelude.{ℕ, ◌*◌, ◌≤◌, ◌<◌, ◌≡◌}
use Rattle.model.specs.Split.{most_rows}
use Rattle.model.specs.declared.Bound.{Bound}
use Rattle.model.specs.declared.Bound.TheVariants.{Rows, Share}

pub record Choices (A : Type 0) : Type 1 where
  pub fits : A → Type 0
  pub size : A → ℕ
  pub error : A → ℕ

module _ {A : Type 0} (choices : Choices A) where
  -- L is the least error among the fitting choices with the fewest rows that any has
  pub record LeastOfFewest (L : ℕ) : Type 0 where
    pub choice : A
    pub fits : choices.fits choice
    pub error : choices.error choice ≡ L
    pub fewest : (other : A) → choices.fits other → choices.size choice ≤ choices.size other
    pub least : (other : A) → choices.fits other → choices.size other ≡ choices.size choice → L ≤ choices.error other

  -- the choice is within share p, in thousandths
  pub record WithinShare (p : ℕ) (choice : A) : Type 0 where
    pub of : ℕ
    pub is_least : LeastOfFewest of
    pub met : choices.error choice * 1000 ≤ p * of

  abbrev pub Exceeds : ℕ → A → Type 0
  Exceeds p choice = WithinShare p choice → ⊥

  -- the choice fits, has this error, and is best among the fitting choices of at most c rows
  pub record BestOfLimit (c error : ℕ) (choice : A) : Type 0 where
    pub fits : choices.fits choice
    pub count : choices.size choice ≤ c
    pub has_error : choices.error choice ≡ error
    pub least : (other : A) → choices.fits other → choices.size other ≤ c → error ≤ choices.error other
    pub fewest : (other : A) → choices.fits other → choices.size other ≤ c → choices.error other ≡ error
        → choices.size choice ≤ choices.size other

  -- the choice fits, has this error, is within the share and best among the fitting choices of as many rows, and fewer rows do
  -- not do
  pub record BestOfShare (p error : ℕ) (choice : A) : Type 0 where
    pub fits : choices.fits choice
    pub has_error : choices.error choice ≡ error
    pub met : WithinShare p choice
    pub least : (other : A) → choices.fits other → choices.size other ≡ choices.size choice → error ≤ choices.error other
    pub fewest : (other : A) → choices.fits other → choices.size other < choices.size choice → Exceeds p other

  abbrev pub BestRows : Bound → ℕ → A → Type 0
  BestRows (Rows c) error choice = BestOfLimit c error choice
  BestRows (Share p) error choice = BestOfShare p error choice

  -- no choice does
  abbrev pub NoRows : Bound → Type 0
  NoRows (Rows c) = (choice : A) → choices.fits choice → choices.size choice ≤ c → ⊥
  NoRows (Share p) = (choice : A) → choices.fits choice → choices.size choice ≤ most_rows → Exceeds p choice
