use Rattle.std.proofs.Common.{◌≡◌, ◌≤◌, ℕ, ◌+◌, List, ◌++◌, drop, encode_utf8, length, sym, ◌∙◌, ap, subst}
use Rattle.std.proofs.{Common.arith, lemmas.Str.{IsUtf8-past_char, chars_past_char, drop_past_char}}
use Rattle.std.specs.{Char.len_utf8, Str.{IsUtf8, chars}, Str.Iter.chars_rest}
use Rattle.wax_lazy.specs.{inner.Cached.DecidesLeft, Cost.char_visits}
use Rattle.wax_lazy.proofs.Costs.{chars_left, fill_char, spent_next, spent_none, spent_some}
use Rattle.wax_lazy.proofs.Chains.{next_decides}
use Rattle.wax_states.specs.States.{places_at}
use Rattle.wax_lazy.proofs.following.advance_left.Goals as goal

pub returns-in_ok-next-in-Some-next-clause-utf8 : goal.returns-in_ok-next-in-Some-next-clause-utf8
returns-in_ok-next-in-Some-next-clause-utf8 c =
    let left : List ℕ = c.args.left.now in
    let rest : List ℕ = chars_rest c.next.new.self in
    let begins : left ≡ encode_utf8 c.in-Some-next.c ++ rest =
    sym c.chars-all.ensures.rest ∙ c.in-Some-next.ensures.steps.0 in
    let zero : len_utf8 c.in-Some-next.c ≡ 0 + len_utf8 c.in-Some-next.c = omega arith in
    let after : drop c.len_utf8.result left ≡ rest = ap (λ n. drop n left) (c.len_utf8.ensures.value ∙ zero)
    ∙ drop_past_char left rest 0 c.in-Some-next.c begins in
    subst IsUtf8 (sym after) (IsUtf8-past_char left rest c.in-Some-next.c c.utf8.left begins)

pub returns-in_ok-next-in-Some-next-clause-decides : goal.returns-in_ok-next-in-Some-next-clause-decides
returns-in_ok-next-in-Some-next-clause-decides c =
    let code = c.args.program.now.0 in
    let states = c.advance.new.self.table.states.items in
    let places = places_at c.args.cache.now.table.states.items c.args.state in
    let next = c.in_ok-next-in-Some-next.next in
    let left : List ℕ = c.args.left.now in
    let rest : List ℕ = chars_rest c.next.new.self in
    let begins : left ≡ encode_utf8 c.in-Some-next.c ++ rest =
    sym c.chars-all.ensures.rest ∙ c.in-Some-next.ensures.steps.0 in
    let zero : len_utf8 c.in-Some-next.c ≡ 0 + len_utf8 c.in-Some-next.c = omega arith in
    let after : drop c.len_utf8.result left ≡ rest = ap (λ n. drop n left) (c.len_utf8.ensures.value ∙ zero)
    ∙ drop_past_char left rest 0 c.in-Some-next.c begins in
    let first = chars_past_char left rest c.in-Some-next.c c.utf8.left begins in
    subst (λ z. DecidesLeft code states places (chars left) (chars z) next) (sym after)
    (next_decides code states places (chars left) (chars rest) c.in-Some-next.c next first
    c.in_ok-next-in-Some-next.ensures.leads)

pub returns-then-end-gt0-clause-spent : goal.returns-then-end-gt0-clause-spent
returns-then-end-gt0-clause-spent c =
    let left : List ℕ = c.args.left.now in
    let end : ℕ = c.follow_rows-next.result.1 in
    let same = c.as_bytes.ensures.value in
    let within : end ≤ length left =
    omega (arith, c.follow_rows-next.ensures.within, ap length same) in
    let utf8 = subst (λ z. IsUtf8 (drop end z)) same c.follow_rows-next.ensures.utf8 in
    spent_none (char_visits c.args.program.now.0) (length (chars left)) (length (chars (drop end left)))
    c.args.meter.now (chars_left left end c.utf8.left within utf8)

pub returns-in_ok-next-in-Some-next-clause-spent : goal.returns-in_ok-next-in-Some-next-clause-spent
returns-in_ok-next-in-Some-next-clause-spent c =
    let left : List ℕ = c.args.left.now in
    let rest : List ℕ = chars_rest c.next.new.self in
    let begins : left ≡ encode_utf8 c.in-Some-next.c ++ rest =
    sym c.chars-all.ensures.rest ∙ c.in-Some-next.ensures.steps.0 in
    let zero : len_utf8 c.in-Some-next.c ≡ 0 + len_utf8 c.in-Some-next.c = omega arith in
    let after : drop c.len_utf8.result left ≡ rest = ap (λ n. drop n left) (c.len_utf8.ensures.value ∙ zero)
    ∙ drop_past_char left rest 0 c.in-Some-next.c begins in
    let first = chars_past_char left rest c.in-Some-next.c c.utf8.left begins in
    spent_next (char_visits c.args.program.now.0) (length (chars left))
    (length (chars (drop c.len_utf8.result left))) c.args.meter.now c.advance.new.meter
    (omega (arith, ap length first, ap (λ z. length (chars z)) after))
    (omega (arith, c.advance.ensures.above, fill_char c.args.program.now.0))

pub returns-in_ok-next-in-Some-next-clause-most : goal.returns-in_ok-next-in-Some-next-clause-most
returns-in_ok-next-in-Some-next-clause-most c =
    let spent = returns-in_ok-next-in-Some-next-clause-spent c in omega (arith, spent)

pub returns-in_err-next-in-Some-next-clause-most : goal.returns-in_err-next-in-Some-next-clause-most
returns-in_err-next-in-Some-next-clause-most c =
    let left : List ℕ = c.args.left.now in
    let rest : List ℕ = chars_rest c.next.new.self in
    let begins : left ≡ encode_utf8 c.in-Some-next.c ++ rest =
    sym c.chars-all.ensures.rest ∙ c.in-Some-next.ensures.steps.0 in
    let first = chars_past_char left rest c.in-Some-next.c c.utf8.left begins in
    spent_some (char_visits c.args.program.now.0) (length (chars left)) c.args.meter.now c.advance.new.meter
    (omega (arith, ap length first)) (omega (arith, c.advance.ensures.above, fill_char c.args.program.now.0))
