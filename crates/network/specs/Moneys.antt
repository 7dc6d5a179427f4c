-- Money keeps the laws. Assumes nothing.
use Rattle.std.specs.Prelude.{◌≡◌, refl}
use Rattle.std.proofs.Common.{ap, arith}
use Rattle.std.proofs.lemmas.Bool.Decides.{nat_tests}
use Rattle.network.specs.Costs.{Laws}
use Rattle.network.specs.Money.{of_amount, money_kind}

pub money_laws : Laws money_kind
money_laws = record {
  assoc = λ a b c. ap of_amount (omega arith);
  comm = λ a b. ap of_amount (omega arith);
  neutral = λ a. ap of_amount (omega arith);
  irrefl = λ a. grind (arith, nat_tests);
  trans = λ a b c p q. grind (arith, nat_tests);
  equal = λ a b p q. let e : a.amount ≡ b.amount = grind (arith, nat_tests) in ap of_amount e;
  least = λ a. grind (arith, nat_tests);
  shift = λ a b c. grind (arith, nat_tests);
  bulk_zero = refl;
  bulk_plus = λ a b. omega arith;
}
