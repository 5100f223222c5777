use Rattle.std.proofs.Common.{ℕ, List, drop, get_or, sym, ap, ◌∙◌, true≢false, arith}
use Rattle.std.proofs.lemmas.List.{get_or-drop}
use Rattle.wax_lengths.specs.Forms.{IsLetter}
use Rattle.wax_lengths.proofs.FormLengths.{spelled_first}
use Rattle.wax_lengths.proofs.lengths.may_begin.Goals as goal

pub returns-then-at-len : goal.returns-then-at-len
returns-then-at-len c = λ no n h.
    let text : List ℕ = c.args.text.now in
    let at : ℕ = c.args.at in
    let ch : ℕ = c.char_at.result in
    let (_, is, _, (some, _), _) = c.in-Some.ensures.item in
    let fits : IsLetter c.args.is_folded c.in-Some.letter.now ch =
    spelled_first c.args.is_folded c.args.letters.now (drop at text) n c.in-Some.letter.now ch some is
    (c.char_at.ensures ∙ (ap (λ k. get_or text k ch) (omega arith) ∙ sym (get_or-drop at text 0 ch))) h in
    absurd (true≢false (sym (c.is_letter.ensures.1 fits) ∙ no))
