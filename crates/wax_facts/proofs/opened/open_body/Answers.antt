use Rattle.std.proofs.Common.{◌≡◌, ◌≢◌, refl, sym, subst, rules, length, None}
use Rattle.wax_token.specs.{Syntax.{alternation, concatenation, repetition}, Words.{trees, annotation_of}}
use Rattle.wax_facts.specs.inner.Bodies.{open_body}
use Rattle.wax_facts.proofs.Openings.{closed_branches, closed_copies}
use Rattle.wax_facts.proofs.opened.open_body.Goals.{in_default-via-in-Alternation+else-len-eq1}
use Rattle.wax_facts.proofs.opened.open_body.Goals.{in_default-via-in-Repetition+then-r-eq1+else-eq}
use Rattle.wax_facts.proofs.opened.open_body.Goals.{in_default-via-in-Repetition+else-r-eq1}
use Rattle.wax_facts.proofs.opened.open_body.Goals.{in_default-via-in_default}
use Rattle.wax_facts.proofs.opened.open_body.Goals as goal

pub returns-in_default : goal.returns-in_default
returns-in_default g c =
    let a = annotation_of c.args.token.now in
    elim c.in_default.branch [
      | in_default-via-in-Alternation+else-len-eq1 w ↦
          let ts = w.in-Alternation.a.tokens.items in
          let e : alternation a (trees ts) ≡ c.args.token.now =
          rw w.in-Alternation.is at (sym c.in_ok-a.ensures.some) in
          let n : length ts ≢ 1 = search rules in
          subst (λ z. open_body z ≡ None) e (closed_branches a ts n)
      | in_default-via-in-Repetition+then-r-eq1+else-eq w ↦
          let r = w.in-Repetition.r in
          let e : repetition a r.token.value r.lower r.upper ≡ c.args.token.now =
          rw w.in-Repetition.is at (sym c.in_ok-a.ensures.some) in
          subst (λ z. open_body z ≡ None) e
          (closed_copies a r.token.value r.lower r.upper (λ l h. absurd (search (rules, h))))
      | in_default-via-in-Repetition+else-r-eq1 w ↦
          let r = w.in-Repetition.r in
          let e : repetition a r.token.value r.lower r.upper ≡ c.args.token.now =
          rw w.in-Repetition.is at (sym c.in_ok-a.ensures.some) in
          subst (λ z. open_body z ≡ None) e
          (closed_copies a r.token.value r.lower r.upper (λ l h. absurd (search (rules, l))))
      | in_default-via-in_default w ↦
          let ts = w.in_default.field-0.tokens.items in
          let e : concatenation a (trees ts) ≡ c.args.token.now =
          rw w.in_default.is at (sym c.in_ok-a.ensures.some) in
          subst (λ z. open_body z ≡ None) e refl
    ]
