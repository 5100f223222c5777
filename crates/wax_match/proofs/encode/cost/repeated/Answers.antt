use Rattle.std.proofs.Common.{◌≡◌, ◌≤◌, ◌+◌, ◌*◌, ◌-◌, ◌^◌, ℕ, zero, suc, min, arith, inl, inr, ◌∙◌, ap}
use Rattle.std.proofs.{lemmas.Bool.cases_lt, Math.Nat.{mul-le-mul_left, mul-le-mul_right}}
use Rattle.wax_match.specs.inner.Limits.{longest}
use Rattle.wax_token.specs.Cost.{copies_of}
use Rattle.wax_match.proofs.encode.cost.repeated.Goals as goal

-- counts above the limit don't matter
capped : (top k c copies body product total : ℕ) → longest + 2 ≤ top → copies ≡ min k top
    → body ≡ min c longest → product ≡ min (copies * (body + 2)) top → total ≡ min (product + 2) top
    → min total longest ≡ min (k * (c + 2) + 2) longest
capped top zero c copies body product total room e f g h =
    let z : copies ≡ 0 = omega (arith, e) in
    let p : copies * (body + 2) ≡ 0 = rw z (omega arith) in
    omega (arith, p, g, h, room)
capped top (suc k) c copies body product total room e f g h =
    let one : 1 ≤ copies = omega (arith, e, room) in
    let low : 1 * (body + 2) ≤ copies * (body + 2) = mul-le-mul_right (body + 2) one in
    let least : copies * 2 ≤ copies * (body + 2) =
    mul-le-mul_left copies (let s : 2 ≤ body + 2 = omega arith in s) in
    let full : 1 * (c + 2) ≤ suc k * (c + 2) =
    mul-le-mul_right (c + 2) (let s : 1 ≤ suc k = omega arith in s) in
    let wide : suc k * 2 ≤ suc k * (c + 2) = mul-le-mul_left (suc k) (let s : 2 ≤ c + 2 = omega arith in s) in
    elim (cases_lt c longest) [
      | inr past ↦ omega (arith, low, full, f, g, h, room, past)
      | inl small ↦ elim (cases_lt top (suc k)) [
        | inl many ↦ omega (arith, least, wide, e, g, h, room, many)
        | inr few ↦
            (let s : copies ≡ suc k = omega (arith, e, few) in
            let t : body ≡ c = omega (arith, f, small) in
            let p : copies * (body + 2) ≡ suc k * (c + 2) =
            ap (λ z. z * (body + 2)) s ∙ ap (λ z. suc k * (z + 2)) t in
            omega (arith, p, g, h, room))
      ]
    ]

pub returns-clause-cost : goal.returns-clause-cost
returns-clause-cost c = λ w e.
    c.min.ensures
    ∙ capped (2 ^ 64 - 1) (copies_of c.args.lower c.args.upper c.args.body.holds_tree) w
    c.copies_of-copies.result c.args.body.cost c.saturating_mul-cost.result c.saturating_add-2.result
    (omega arith) c.copies_of-copies.ensures e
    (c.saturating_mul-cost.ensures ∙ ap (λ z. min (c.copies_of-copies.result * z) (2 ^ 64 - 1)) (let s :
    c.saturating_add.result ≡ c.args.body.cost + 2 = omega (arith, e, c.saturating_add.ensures) in s))
    c.saturating_add-2.ensures
