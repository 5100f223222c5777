use Rattle.std.proofs.Common.{◌≡◌, ◌∙◌, ◌+◌, ◌++◌, [], ℕ, List, ap, sym, subst, refl, true, false, rules}
use Rattle.std.proofs.{Common.{chars, string_bytes, Some}, lemmas.List.nil_from_length}
use Rattle.std.proofs.lemmas.Str.{IsUtf8-string_bytes}
use Rattle.wax_token.specs.{Syntax.more, Words.trees, Kinds.{is_tree_wildcard, is_separator}}
use Rattle.wax_facts.specs.{InvariantText.Text, Prefix.{Cut, CutBefore, opened_last}}
use Rattle.wax_facts.proofs.CutSteps.{Taken, cut_at_end, cut_at_tree, same_taken, taken_all, taken_back}
use Rattle.wax_facts.proofs.{CutSteps.{taken_none, taken_plain, taken_slash}, Openings.left_cons}
use Rattle.wax_facts.proofs.TextSteps.{chars_none, chars_pushed, found_is, none_is}
use Rattle.wax_facts.proofs.prefix.cut_prefix.Goals.{then-is_separator+in_ok-push_str-2, else-is_separator}
use Rattle.wax_facts.proofs.prefix.cut_prefix.Goals.{in-Some+then-is_tree_wildcard, in_default}
use Rattle.wax_facts.proofs.prefix.cut_prefix.Goals as goal

pub loop-first-init : goal.loop-first-init
loop-first-init g c =
    let all = opened_last (trees c.args.tokens.now) in
    record {
      first = c.requires;
      taken = same_taken all all all 0 0 0 0 [] _ [] _ refl refl refl (sym (chars_none _ c.new.ensures.bytes))
          (sym (chars_none _ c.new-after_slash.ensures.bytes)) (taken_none all);
    }

pub returns-in_default-2 : goal.returns-in_default-2
returns-in_default-2 g c =
    let all = opened_last (trees c.args.tokens.now) in
    let others = opened_last (trees c.in-Some.others.now) in
    let e : opened_last (trees c.loop-first.left.now) ≡ more c.in-Some.first.now others =
    left_cons c.loop-first.left.now c.in-Some.first.now c.in-Some.others.now c.in-Some.ensures.cases.0
    c.loop-first.invariant.first in
    let plain : is_tree_wildcard c.in-Some.first.now ≡ false = search rules in
    taken_back all c.in-Some.first.now others c.loop-first.taken c.loop-first.cut.0
    (chars (string_bytes c.loop-first.cut.1)) (chars (string_bytes c.loop-first.after_slash))
    plain (none_is _ _ _ c.in_default-2.is c.in_ok-text.ensures.exact)
    (subst (λ z. Taken all z c.loop-first.taken c.loop-first.cut.0 (chars (string_bytes c.loop-first.cut.1))
    (chars (string_bytes c.loop-first.after_slash))) e c.loop-first.invariant.taken)

pub loop-first-preserved : goal.loop-first-preserved
loop-first-preserved g c =
    let all = opened_last (trees c.args.tokens.now) in
    let first = c.in-Some.first.now in
    let others = opened_last (trees c.in-Some.others.now) in
    let n : ℕ = c.loop-first.taken in
    let p : List ℕ = string_bytes c.loop-first.cut.1 in
    let q : List ℕ = string_bytes c.loop-first.after_slash in
    let x : List ℕ = string_bytes c.in-Some-2.text in
    let e : opened_last (trees c.loop-first.left.now) ≡ more first others = left_cons c.loop-first.left.now
    first c.in-Some.others.now c.in-Some.ensures.cases.0 c.loop-first.invariant.first in
    let k : Taken all (more first others) n c.loop-first.cut.0 (chars p) (chars q) =
    subst (λ z. Taken all z n c.loop-first.cut.0 (chars p) (chars q)) e c.loop-first.invariant.taken in
    let text : Text first (chars x) = found_is _ _ _ _ c.in-Some-2.is c.in_ok-text.ensures.exact in
    let more_taken : c.in_ok-taken.taken ≡ n + 1 = search rules in
    let pushed : string_bytes c.push_str.new.self ≡ q ++ x = search rules in
    let joined : chars (string_bytes c.push_str.new.self) ≡ chars q ++ chars x =
    chars_pushed q x _ (IsUtf8-string_bytes c.loop-first.after_slash) pushed in
    record {
      first = c.opened_from-left.ensures.open;
      taken = elim c.if-is_separator.branch [
        | then-is_separator+in_ok-push_str-2 w ↦
            let slash : is_separator first ≡ true = search rules in
            let whole : string_bytes w.push_str-then-is_separator.new.self
            ≡ p ++ string_bytes c.push_str.new.self = search rules in
            let all_text : chars (string_bytes w.push_str-then-is_separator.new.self)
            ≡ chars p ++ (chars q ++ chars x) =
            chars_pushed p (string_bytes c.push_str.new.self) _ (IsUtf8-string_bytes c.loop-first.cut.1) whole
            ∙ ap (λ z. chars p ++ z) joined in
            let nothing : chars (string_bytes w.clear.new.self) ≡ [] = chars_none _ (search rules) in
            same_taken all others _ (n + 1) _ (n + 1) _ (chars p ++ (chars q ++ chars x)) _ [] _
            (sym c.opened_from-left.ensures.same) (sym more_taken)
            (sym more_taken ∙ sym (ap (λ z. z.0) w.cut-is))
            (sym all_text ∙ sym (ap (λ z. chars (string_bytes z.1)) w.cut-is))
            (sym nothing ∙ sym (ap (λ z. chars (string_bytes z)) w.after_slash-is))
            (taken_slash all first others n c.loop-first.cut.0 (chars p) (chars q) (chars x) slash text k)
        | else-is_separator w ↦
            let plain : is_separator first ≡ false = search rules in
            same_taken all others _ (n + 1) _ c.loop-first.cut.0 _ (chars p) _ (chars q ++ chars x) _
            (sym c.opened_from-left.ensures.same) (sym more_taken)
            (sym (ap (λ z. z.0) w.cut-is)) (sym (ap (λ z. chars (string_bytes z.1)) w.cut-is))
            (sym joined ∙ sym (ap (λ z. chars (string_bytes z)) w.after_slash-is))
            (taken_plain all first others n c.loop-first.cut.0 (chars p) (chars q) (chars x) plain text k)
      ];
    }

pub returns : goal.returns
returns g c =
    let all = opened_last (trees c.args.tokens.now) in
    let left = c.loop-first.left.now in
    let p : List ℕ = string_bytes c.loop-first.cut.1 in
    let q : List ℕ = string_bytes c.loop-first.after_slash in
    let whole : string_bytes c.push_str-2.new.self ≡ p ++ q = search rules in
    let joined : chars (string_bytes c.push_str-2.new.self) ≡ chars p ++ chars q =
    chars_pushed p q _ (IsUtf8-string_bytes c.loop-first.cut.1) whole in
    let at : Cut (opened_last (trees left)) (Some (0, [])) = elim c.match-split_first.branch [
      | in-Some+then-is_tree_wildcard w ↦
          let e : opened_last (trees left)
          ≡ more w.in-Some.first.now (opened_last (trees w.in-Some.others.now)) =
          left_cons left w.in-Some.first.now w.in-Some.others.now w.in-Some.ensures.cases.0
          c.loop-first.invariant.first in
          let tree : is_tree_wildcard w.in-Some.first.now ≡ true = search rules in
          subst (λ z. Cut z (Some (0, []))) (sym e)
          (cut_at_tree w.in-Some.first.now (opened_last (trees w.in-Some.others.now)) tree)
      | in_default w ↦ cut_at_end (opened_last (trees left))
          (ap (λ z. opened_last (trees z)) (nil_from_length left w.in_default.ensures.cases))
    ] in
    subst (CutBefore all c.loop-first.taken) (sym joined) (taken_all all (opened_last (trees left))
    c.loop-first.taken c.loop-first.cut.0 (chars p) (chars q) at c.loop-first.invariant.taken)
