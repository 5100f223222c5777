use Rattle.std.proofs.Common.{rules, ◌≡◌, ◌*◌, ◌≤◌, ℕ, Option, Some, None, arith, subst, sym}
use Rattle.std.proofs.lemmas.Nat.{mul-le}
use Rattle.wax_query.specs.Ranges.{Bounds, AtMost, HoldsNumber, HoldsProducts, NaturalRange, bounds, of_both}
use Rattle.wax_query.specs.Ranges.{ordered}
use Rattle.wax_query.proofs.query.range.NaturalRange.product.Goals as goal

abbrev products : Bounds → Bounds → Bounds
products r s = ordered (r.0 * s.0) (of_both (λ m n. m * n) r.1 s.1)

-- a product is between the products of the bounds
product_between : (a b m n : ℕ) (p q : Option ℕ) → a ≤ m → b ≤ n → AtMost m p → AtMost n q →
    HoldsNumber (products (a, p) (b, q)) (m * n)
product_between a b m n None q am bn mp nq = (mul-le a b m n am bn, tt)
product_between a b m n (Some x) None am bn mp nq = (mul-le a b m n am bn, tt)
product_between a b m n (Some x) (Some y) am bn mp nq =
    (omega (arith, mul-le a b m n am bn), omega (arith, mul-le m n x y mp nq))

product_members : (r s t : NaturalRange) → bounds t ≡ products (bounds r) (bounds s) →
    HoldsProducts (bounds r) (bounds s) (bounds t)
product_members r s t e m n rm sn =
    let P : Bounds → Type 0 = λ b. HoldsNumber b (m * n) in
    subst P (sym e) (product_between _ _ m n _ _ rm.0 sn.0 rm.1 sn.1)

pub returns-clause-members : goal.returns-clause-members
returns-clause-members c =
    product_members c.args.self c.args.other c.from_closed_and_open.result (search rules)
