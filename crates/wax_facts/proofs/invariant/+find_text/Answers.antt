use Rattle.std.proofs.Common.{◌≡◌, ◌∙◌, ◌++◌, [], ℕ, List, ap, sym, subst, rules, arith, IfOk, MatchOption}
use Rattle.std.proofs.Common.{Some, chars, string_bytes, append_assoc, append-nil}
use Rattle.std.proofs.{lemmas.List.nil_from_length, lemmas.Str.{chars-append, chars-nil, IsUtf8-string_bytes}}
use Rattle.std.specs.List.{repeat}
use Rattle.wax_token.specs.{Syntax.repetition, View.topology_tree, Words.{trees, annotation_of}}
use Rattle.wax_token.specs.declared.token.Topology.TheVariants.{Branch}
use Rattle.wax_facts.specs.InvariantText.{Text, TextOfAll, TextOfEach, Variant}
use Rattle.wax_facts.proofs.TextSteps.{all_at, all_kept, all_same, bytes_same, chars_repeat, each_at}
use Rattle.wax_facts.proofs.TextSteps.{each_end, each_step, found_is, none_is}
use Rattle.wax_facts.proofs.invariant.+find_text.Goals as goal

pub find_text-returns-in-Repetition : goal.find_text-returns-in-Repetition
find_text-returns-in-Repetition g t c =
    let a = annotation_of c.args.token.now in
    let e : topology_tree (Branch c.in-Branch.branch) a ≡ c.args.token.now =
    ap (λ z. topology_tree z a) (sym c.in-Branch.is) ∙ c.topology.ensures in
    let f : repetition a c.in-Repetition.r.token.value c.in-Repetition.r.lower c.in-Repetition.r.upper
    ≡ c.args.token.now = rw c.in-Repetition.is at e in
    subst (λ z. IfOk c.text_of_copies.result (λ found.
    MatchOption found (Variant z) (λ t. Text z (chars (string_bytes t))))) f c.text_of_copies.ensures

pub text_of_all-returns-in_default : goal.text_of_all-returns-in_default
text_of_all-returns-in_default g t c =
    subst (λ z. TextOfAll (trees z) (chars (string_bytes c.new.result)))
    (sym (nil_from_length c.args.tokens.now c.in_default.ensures.cases))
    (ap chars c.new.ensures.bytes ∙ chars-nil)

pub text_of_all-returns-in_default-3 : goal.text_of_all-returns-in_default-3
text_of_all-returns-in_default-3 g t c = λ s h.
    none_is _ _ _ c.in_default-3.is c.in_ok-other.ensures s
    (all_at c.in-Some.first.now c.in-Some.others.now c.loop-token.token-index c.token-item.result
    c.loop-token-test.true c.token-item.is s
    (subst (λ z. TextOfAll (trees z) s) c.in-Some.ensures.cases.0 h))

pub text_of_all-returns-then-ne : goal.text_of_all-returns-then-ne
text_of_all-returns-then-ne g t c = λ s h.
    let e : string_bytes c.in-Some-3.other ≡ string_bytes c.in-Some-2.text =
    bytes_same c.in-Some-3.other c.in-Some-2.text
    (all_same c.in-Some.first.now c.in-Some.others.now c.loop-token.token-index c.token-item.result
    (chars (string_bytes c.in-Some-2.text)) (chars (string_bytes c.in-Some-3.other)) s
    c.loop-token-test.true c.token-item.is (found_is _ _ _ _ c.in-Some-2.is c.in_ok-text.ensures)
    (found_is _ _ _ _ c.in-Some-3.is c.in_ok-other.ensures)
    (subst (λ z. TextOfAll (trees z) s) c.in-Some.ensures.cases.0 h)) in
    absurd (search (rules, e))

pub text_of_all-loop-token-preserved : goal.text_of_all-loop-token-preserved
text_of_all-loop-token-preserved g t c = λ h.
    let e : string_bytes c.in-Some-3.other ≡ string_bytes c.in-Some-2.text = search rules in
    c.loop-token.invariant (all_kept c.args.tokens.now c.in-Some.first.now c.in-Some.others.now
    c.loop-token.token-index c.token-item.result (chars (string_bytes c.in-Some-2.text))
    c.in-Some.ensures.cases.0 c.loop-token-test.true c.token-item.is
    (subst (λ z. Text c.token-item.result (chars z)) e
    (found_is _ _ _ _ c.in-Some-3.is c.in_ok-other.ensures)) h)

pub text_of_copies-returns : goal.text_of_copies-returns
text_of_copies-returns g t c =
    let text : List ℕ = string_bytes c.in-Some.text in
    let e : c.args.copies.now.upper ≡ Some c.args.copies.now.lower = search rules in
    let v : c.deref.result.now ≡ c.args.copies.now.token.value = search rules in
    let b : string_bytes c.in_ok-repeat.field-0 ≡ repeat c.args.copies.now.lower text = search rules in (
      chars text,
      subst (λ z. Text z (chars text)) v (found_is _ _ _ _ c.in-Some.is c.in_ok-text.ensures),
      e,
      ap chars b ∙ chars_repeat c.args.copies.now.lower text (IsUtf8-string_bytes c.in-Some.text),
    )

pub text_of_each-loop-token-init : goal.text_of_each-loop-token-init
text_of_each-loop-token-init g t c = λ y h.
    subst (λ z. TextOfEach (trees c.args.tokens.now) (z ++ y))
    (sym (ap chars c.new-joined.ensures.bytes ∙ chars-nil)) h

pub text_of_each-returns-in_default : goal.text_of_each-returns-in_default
text_of_each-returns-in_default g t c = λ s h.
    let k : (x : List ℕ) × Text c.token-item.result x = each_at c.args.tokens.now c.loop-token.token-index
    c.token-item.result c.loop-token-test.true c.token-item.is s h in
    none_is _ _ _ c.in_default.is c.in_ok-text.ensures k.0 k.1

pub text_of_each-loop-token-preserved : goal.text_of_each-loop-token-preserved
text_of_each-loop-token-preserved g t c = λ y h.
    let old : List ℕ = string_bytes c.loop-token.joined in
    let new : List ℕ = string_bytes c.in-Some.text in
    let b : string_bytes c.push_str.new.self ≡ old ++ new = search rules in
    let e : chars (string_bytes c.push_str.new.self) ≡ chars old ++ chars new =
    ap chars b ∙ chars-append old new (IsUtf8-string_bytes c.loop-token.joined) in
    subst (TextOfEach (trees c.args.tokens.now)) (sym (append_assoc (chars old) (chars new) y)
    ∙ ap (λ z. z ++ y) (sym e))
    (c.loop-token.invariant (chars new ++ y)
    (each_step c.args.tokens.now c.loop-token.token-index c.token-item.result (chars new) y
    c.loop-token-test.true c.token-item.is (found_is _ _ _ _ c.in-Some.is c.in_ok-text.ensures) h))

pub text_of_each-returns : goal.text_of_each-returns
text_of_each-returns g t c =
    subst (TextOfEach (trees c.args.tokens.now)) (append-nil (chars (string_bytes c.loop-token.joined)))
    (c.loop-token.invariant []
    (each_end c.args.tokens.now c.loop-token.token-index (omega (arith, c.loop-token-test.false))))
