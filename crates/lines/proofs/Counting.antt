-- A number, digit by digit. Assumes nothing.
use Rattle.std.proofs.Common.{◌≡◌, ℕ, ◌+◌, ◌-◌, ◌*◌, ◌<◌, true, false, cond, ◌&&◌, List, [], ◌∷◌, length, Some, None, Option, refl, ap, ◌∙◌, arith}
use Rattle.lines.specs.Numbers.{digit, all_digits, value, held, number_of, one_more}
use Rattle.lines.specs.Reading.{bind}

-- what digits say after a number
abbrev pub read_on : List ℕ → ℕ → Option ℕ
read_on [] n = Some n
read_on (b ∷ bs) n = bind (one_more n b) (read_on bs)

held_on : (n d : ℕ) → held (held n * 10 + d) ≡ held (n * 10 + d)
held_on n d = omega arith

reads : (bs : List ℕ) (n : ℕ) → read_on bs (held n) ≡ cond (all_digits bs) (Some (held (value n bs))) None
reads [] n = refl
reads (b ∷ bs) n =
    elim (digit b) as (λ t. bind (cond t (Some (held (held n * 10 + (b - 48)))) None) (read_on bs) ≡ cond (t && all_digits bs) (Some (held (value (n * 10 + (b - 48)) bs))) None)
    [ true ↦ ap (read_on bs) (held_on n (b - 48)) ∙ reads bs (n * 10 + (b - 48)) | false ↦ refl ]

pub read_all : (bs : List ℕ) → 0 < length bs → read_on bs 0 ≡ number_of bs
read_all [] h = absurd (omega arith)
read_all (b ∷ bs) h = reads (b ∷ bs) 0
