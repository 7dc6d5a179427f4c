-- The set of all outlets but the root. Assumes nothing.
use Rattle.std.proofs.Common.{◌≡◌, ℕ, zero, suc, ◌+◌, ◌-◌, ◌*◌, ◌/◌, ◌%◌, ◌^◌, ◌<◌, true, sym, ap, ◌∙◌, arith}
use Rattle.std.proofs.lemmas.Nat.{shr_high, pow-add, pow_pos}
use Rattle.std.proofs.lemmas.Bool.{eq-eqb, eqb-true}
use Rattle.network.specs.Bounds.{Has}
use Rattle.farthest.specs.Distances.{in_set}

less_one : (a b : ℕ) → 0 < a → 0 < b → (a - 1) * b + (b - 1) ≡ a * b - 1
less_one zero b p q = absurd (omega arith)
less_one (suc a) b p q = let e : suc a - 1 ≡ a = omega arith in rw e (omega arith)

ones_bit : (n i : ℕ) → i < n → (2 ^ n - 1) / 2 ^ i % 2 ≡ 1
ones_bit n i l =
    let m : ℕ = n - i - 1 in
    let s : n ≡ suc m + i = omega arith in
    let pos : 0 < 2 ^ i = pow_pos i in
    let pos' : 0 < 2 ^ m = pow_pos m in
    let e : 2 ^ n ≡ 2 ^ suc m * 2 ^ i = ap (λ x. 2 ^ x) s ∙ pow-add 2 (suc m) i in
    let f : (2 ^ suc m - 1) * 2 ^ i + (2 ^ i - 1) ≡ 2 ^ n - 1 = less_one (2 ^ suc m) (2 ^ i) (omega arith) pos ∙ ap (λ x. x - 1) (sym e) in
    let g : (2 ^ n - 1) / 2 ^ i ≡ 2 ^ suc m - 1 = ap (λ x. x / 2 ^ i) (sym f) ∙ shr_high (2 ^ suc m - 1) i (2 ^ i - 1) (omega arith) in
    omega arith

pub all_in : (n j : ℕ) → 0 < j → j < n → in_set (2 ^ (n - 1) - 1) j ≡ true
all_in n zero p l = absurd (omega arith)
all_in n (suc i) p l = eq-eqb _ _ (ones_bit (n - 1) i (omega arith))

-- what is one of the outlets after the root
pub in_has : (I i : ℕ) → in_set I (suc i) ≡ true → Has I i
in_has I i e = eqb-true _ _ e

pub has_in : (I i : ℕ) → Has I i → in_set I (suc i) ≡ true
has_in I i h = eq-eqb _ _ h
