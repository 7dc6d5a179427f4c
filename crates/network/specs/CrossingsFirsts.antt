-- Crossings, and then money, keep the laws. Assumes nothing.
use Rattle.std.specs.Prelude.{◌≡◌, ℕ, refl}
use Rattle.std.proofs.Common.{arith}
use Rattle.std.proofs.lemmas.Bool.Decides.{nat_tests}
use Rattle.network.specs.Costs.{Laws}
use Rattle.network.specs.Crossings.{of_parts, crossings_kind}

-- equal parts make equal costs
ap_parts : {n n' m m' : ℕ} → n ≡ n' → m ≡ m' → of_parts n m ≡ of_parts n' m'
ap_parts p q = cc

pub crossings_laws : Laws crossings_kind
crossings_laws = record {
  assoc = λ a b c. ap_parts (omega arith) (omega arith);
  comm = λ a b. ap_parts (omega arith) (omega arith);
  neutral = λ a. ap_parts (omega arith) (omega arith);
  irrefl = λ a. grind (arith, nat_tests);
  trans = λ a b c p q. grind (arith, nat_tests);
  equal = λ a b p q. let e : a.crossings ≡ b.crossings = grind (arith, nat_tests) in let f : a.money ≡ b.money = grind (arith, nat_tests) in ap_parts e f;
  least = λ a. grind (arith, nat_tests);
  shift = λ a b c. grind (arith, nat_tests);
  bulk_zero = refl;
  bulk_plus = λ a b. omega arith;
}
