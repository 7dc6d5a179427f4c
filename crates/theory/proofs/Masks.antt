-- Sets of outlets as bit masks. Assumes nothing.
use Rattle.std.proofs.Common.{◌≡◌, ℕ, zero, suc, ◌+◌, ◌-◌, ◌*◌, ◌/◌, ◌%◌, ◌^◌, ◌<◌, ◌≤◌, min, max, ◌≢◌, ◌⊎◌, sym, ap, ◌∙◌, subst, inl, inr, arith}
use native.Mathlib.Nat.{zero-div, div-eq_of_lt}
use native.Mathlib.Decide.{dec_lt}
use lib.Bits.{bit_and, bit_or, and_step, or_step, and_shr, or_shr, and_comm, or_comm, or_disjoint}
use Rattle.std.proofs.lemmas.Nat.{shr-shr, shr_high, shl-shr, pow-add, pow_below, pow_pos}
use Rattle.network.specs.Bounds.{Has}

pub bit : ℕ → ℕ → ℕ
bit n i = n / 2 ^ i % 2

and_low : (a b : ℕ) → bit_and a b % 2 ≡ min (a % 2) (b % 2)
and_low a b = omega (arith, and_step a b)

or_low : (a b : ℕ) → bit_or a b % 2 ≡ max (a % 2) (b % 2)
or_low a b = omega (arith, or_step a b)

pub and_bit : (a b i : ℕ) → bit (bit_and a b) i ≡ min (bit a i) (bit b i)
unfolding bit
and_bit a b i = ap (λ x. x % 2) (and_shr a b i) ∙ and_low (a / 2 ^ i) (b / 2 ^ i)

pub or_bit : (a b i : ℕ) → bit (bit_or a b) i ≡ max (bit a i) (bit b i)
unfolding bit
or_bit a b i = ap (λ x. x % 2) (or_shr a b i) ∙ or_low (a / 2 ^ i) (b / 2 ^ i)

pub bit_lt : (a i : ℕ) → bit a i < 2
unfolding bit
bit_lt a i = omega arith

pub bit_zero : (i : ℕ) → bit 0 i ≡ 0
unfolding bit
bit_zero i = ap (λ x. x % 2) (zero-div (2 ^ i))

bit_half : (a i : ℕ) → bit (a / 2) i ≡ bit a (1 + i)
unfolding bit
bit_half a i = ap (λ x. x % 2) (shr-shr a 1 i)

bit_first : (a : ℕ) → bit a 0 ≡ a % 2
unfolding bit
bit_first a = omega arith

pub same_bits : (a b : ℕ) → ((i : ℕ) → bit a i ≡ bit b i) → a ≡ b
same_bits a b h = go (a + b) a b (omega arith) (omega arith) h
  where
    go : (f a b : ℕ) → a ≤ f → b ≤ f → ((i : ℕ) → bit a i ≡ bit b i) → a ≡ b
    go zero a b p q h = omega arith
    go (suc f) a b p q h =
        let high = go f (a / 2) (b / 2) (omega arith) (omega arith) (λ i. bit_half a i ∙ h (1 + i) ∙ sym (bit_half b i)) in
        let low = sym (bit_first a) ∙ h 0 ∙ bit_first b in
        omega arith

pub or_assoc : (a b c : ℕ) → bit_or (bit_or a b) c ≡ bit_or a (bit_or b c)
or_assoc a b c = same_bits _ _ (λ i. simp or_bit (omega arith))

pub or_left_comm : (a b c : ℕ) → bit_or a (bit_or b c) ≡ bit_or b (bit_or a c)
or_left_comm a b c = same_bits _ _ (λ i. simp or_bit (omega arith))

pub or_swap : (a b c d : ℕ) → bit_or (bit_or a b) (bit_or c d) ≡ bit_or (bit_or a c) (bit_or b d)
or_swap a b c d = simp (or_assoc, or_left_comm)

-- ---- sets with nothing in common
pub apart_at : (a b i : ℕ) → bit_and a b ≡ 0 → min (bit a i) (bit b i) ≡ 0
apart_at a b i h = sym (and_bit a b i) ∙ ap (λ x. bit x i) h ∙ bit_zero i

pub apart : (a b : ℕ) → ((i : ℕ) → min (bit a i) (bit b i) ≡ 0) → bit_and a b ≡ 0
apart a b h = same_bits _ _ (λ i. and_bit a b i ∙ h i ∙ sym (bit_zero i))

pub apart_comm : (a b : ℕ) → bit_and a b ≡ 0 → bit_and b a ≡ 0
apart_comm a b h = and_comm b a ∙ h

pub apart_or : (a b c : ℕ) → bit_and a c ≡ 0 → bit_and b c ≡ 0 → bit_and (bit_or a b) c ≡ 0
apart_or a b c h k = apart _ _ (λ i. simp or_bit (omega (arith, apart_at a c i h, apart_at b c i k)))

pub apart_left : (a b c : ℕ) → bit_and (bit_or a b) c ≡ 0 → bit_and a c ≡ 0
apart_left a b c h = apart _ _ (λ i. omega (arith, or_bit a b i, apart_at (bit_or a b) c i h))

pub apart_right : (a b c : ℕ) → bit_and (bit_or a b) c ≡ 0 → bit_and b c ≡ 0
apart_right a b c h = apart _ _ (λ i. omega (arith, or_bit a b i, apart_at (bit_or a b) c i h))

-- ---- which outlets a set has
pub has_or_left : (a b i : ℕ) → Has a i → Has (bit_or a b) i
unfolding bit
has_or_left a b i h = let e : bit (bit_or a b) i ≡ max (bit a i) (bit b i) = or_bit a b i in let l : bit b i < 2 = bit_lt b i in omega arith

pub has_or_right : (a b i : ℕ) → Has b i → Has (bit_or a b) i
has_or_right a b i h = rw or_comm (has_or_left b a i h)

pub has_or : (a b i : ℕ) → Has (bit_or a b) i → Has a i ⊎ Has b i
unfolding bit
has_or a b i h = pick (dec_lt 0 (bit a i))
  where
    e : bit (bit_or a b) i ≡ max (bit a i) (bit b i)
    e = or_bit a b i

    pick : Dec (0 < bit a i) → Has a i ⊎ Has b i
    pick (yes p) = inl (omega arith)
    pick (no n) = inr (omega (arith, e))

-- the highest outlet of a set
pub has_top : (k r : ℕ) → r < 2 ^ k → Has (1 * 2 ^ k + r) k
has_top k r h = rw (shr_high 1 k r h)

pub has_single : (k i : ℕ) → Has (2 ^ k) i → i ≡ k
has_single k i h = look (dec_lt k i) (dec_lt i k)
  where
    look : Dec (k < i) → Dec (i < k) → i ≡ k
    look (yes l) d = let e : 2 ^ k / 2 ^ i ≡ 0 = div-eq_of_lt (pow_below k i l) in omega arith
    look (no n) (yes l) =
        let m : ℕ = k - i - 1 in
        let s : k ≡ suc m + i = omega arith in
        let e : 2 ^ k / 2 ^ i ≡ 2 ^ suc m = ap (λ x. 2 ^ x / 2 ^ i) s ∙ ap (λ x. x / 2 ^ i) (pow-add 2 (suc m) i) ∙ shl-shr (2 ^ suc m) i in
        omega arith
    look (no n) (no m) = omega arith

pow_le : (i j : ℕ) → i ≤ j → 2 ^ i ≤ 2 ^ j
pow_le i j h = look (dec_lt i j)
  where
    look : Dec (i < j) → 2 ^ i ≤ 2 ^ j
    look (yes l) = let p : 2 ^ i < 2 ^ j = pow_below i j l in omega arith
    look (no n) = let e : i ≡ j = omega arith in rw e (omega arith)

-- ---- the set of the first n outlets
pub full_below : (n i : ℕ) → Has (2 ^ n - 1) i → i < n
full_below n i h = look (dec_lt i n)
  where
    look : Dec (i < n) → i < n
    look (yes l) = l
    look (no m) =
        let up : 2 ^ n ≤ 2 ^ i = pow_le n i (omega arith) in
        let pos : 0 < 2 ^ n = pow_pos n in
        let e : (2 ^ n - 1) / 2 ^ i ≡ 0 = div-eq_of_lt (omega arith) in
        omega arith

less_one : (a b : ℕ) → 0 < a → 0 < b → (a - 1) * b + (b - 1) ≡ a * b - 1
less_one zero b p q = absurd (omega arith)
less_one (suc a) b p q = let e : suc a - 1 ≡ a = omega arith in rw e (omega arith)

pub full_has : (n i : ℕ) → i < n → Has (2 ^ n - 1) i
full_has n i l =
    let m : ℕ = n - i - 1 in
    let s : n ≡ suc m + i = omega arith in
    let pos : 0 < 2 ^ i = pow_pos i in
    let pos' : 0 < 2 ^ m = pow_pos m in
    let e : 2 ^ n ≡ 2 ^ suc m * 2 ^ i = ap (λ x. 2 ^ x) s ∙ pow-add 2 (suc m) i in
    let f : (2 ^ suc m - 1) * 2 ^ i + (2 ^ i - 1) ≡ 2 ^ n - 1 = less_one (2 ^ suc m) (2 ^ i) (omega arith) pos ∙ ap (λ x. x - 1) (sym e) in
    let g : (2 ^ n - 1) / 2 ^ i ≡ 2 ^ suc m - 1 = ap (λ x. x / 2 ^ i) (sym f) ∙ shr_high (2 ^ suc m - 1) i (2 ^ i - 1) (omega arith) in
    omega arith

pub full_small : (n : ℕ) → 2 ^ n - 1 < 2 ^ n
full_small n = let pos : 0 < 2 ^ n = pow_pos n in omega arith

pub full_some : (n : ℕ) → 0 < n → 2 ^ n - 1 ≢ 0
full_some n l =
    let up : 2 ^ 1 ≤ 2 ^ n = pow_le 1 n l in
    omega arith

-- ---- what a set with more in it has
pub or_some : (a b : ℕ) → a ≢ 0 → bit_or a b ≢ 0
or_some a b h e = h (same_bits _ _ (λ i. omega (arith, or_bit a b i, ap (λ x. bit x i) e, bit_zero i)))

-- of a split into two parts that are not empty, each is the smaller number
pub part_below : (a b : ℕ) → bit_and a b ≡ 0 → b ≢ 0 → a < bit_or a b
part_below a b h e = omega (arith, or_disjoint a b h)

pub inside_or : (a b i : ℕ) → Has (bit_or a b) i → (Has a i → ⊥) → Has b i
inside_or a b i h f = elim (has_or a b i h) [ inl p ↦ absurd (f p) | inr p ↦ p ]

pub has_self : (k : ℕ) → Has (2 ^ k) k
has_self k = let e : 1 * 2 ^ k + 0 ≡ 2 ^ k = omega arith in subst (λ x. Has x k) e (has_top k 0 (pow_pos k))

-- one outlet cannot be split
part_of_one : (a b k : ℕ) → bit_or a b ≡ 2 ^ k → a ≢ 0 → bit a k ≡ 1
unfolding bit
part_of_one a b k e ne = look (dec_lt 0 (bit a k))
  where
    zeros : ¬ (0 < bit a k) → (i : ℕ) → bit a i ≡ bit 0 i
    zeros n i = at (dec_lt 0 (bit a i))
      where
        at : Dec (0 < bit a i) → bit a i ≡ bit 0 i
        at (no m) = omega (arith, bit_zero i)
        at (yes p) =
            let h : Has a i = omega (arith, bit_lt a i) in
            let s : i ≡ k = has_single k i (subst (λ x. Has x i) e (has_or_left a b i h)) in
            absurd (n (subst (λ x. 0 < bit a x) s p))

    look : Dec (0 < bit a k) → bit a k ≡ 1
    look (yes p) = omega (arith, bit_lt a k)
    look (no n) = absurd (ne (same_bits a 0 (zeros n)))

pub not_split : (a b k : ℕ) → bit_or a b ≡ 2 ^ k → bit_and a b ≡ 0 → a ≢ 0 → b ≢ 0 → ⊥
not_split a b k e h p q = omega (arith, part_of_one a b k e p, part_of_one b a k (or_comm b a ∙ e) q, apart_at a b k h)

pub same_place : (i j : ℕ) → 2 ^ i ≡ 2 ^ j → i ≡ j
same_place i j e = has_single j i (subst (λ x. Has x i) e (has_self i))
