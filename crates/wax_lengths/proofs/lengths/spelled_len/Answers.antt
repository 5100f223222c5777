use Rattle.std.proofs.Common.{◌≡◌, ◌+◌, ◌<◌, ◌∙◌, ℕ, List, drop, get_or, length, length-drop, arith, rules}
use Rattle.std.proofs.{Common.{subst, sym}, lemmas.List.get_or-drop}
use Rattle.wax_lengths.specs.Forms.{IsLetter}
use Rattle.wax_lengths.proofs.{FormLengths.{spelled_at, spelled_more}, Lists.read_within}
use Rattle.wax_lengths.proofs.lengths.spelled_len.Goals as goal

pub loop-index-init : goal.loop-index-init
loop-index-init c = tt

pub loop-index-preserved : goal.loop-index-preserved
loop-index-preserved c =
    let text : List ℕ = c.args.text.now in
    let i : ℕ = c.loop-index.index in
    let at : ℕ = c.args.at in
    let ch : ℕ = c.char_after.result in
    let here : IsLetter c.args.is_folded c.index-letters-index.result ch = search rules in
    spelled_more c.args.is_folded c.args.letters.now (drop at text) i c.index-letters-index.result ch
    c.loop-index-test.true (omega (arith, c.loop-index-test.true, c.requires, length-drop at text))
    c.index-letters-index.is (c.char_after.ensures ∙ sym (get_or-drop at text i ch)) here
    c.loop-index.invariant

pub returns-then-not-is_letter-clause-fewer : goal.returns-then-not-is_letter-clause-fewer
returns-then-not-is_letter-clause-fewer c = λ less n h.
    let text : List ℕ = c.args.text.now in
    let letters : List ℕ = c.args.letters.now in
    let at : ℕ = c.args.at in
    let i : ℕ = c.loop-index.index in
    let a : ℕ = c.char_after.result in
    let b : ℕ = c.index-letters-index.result in
    let lt : i < length letters = c.loop-index-test.true in
    let (within, is) = spelled_at c.args.is_folded letters (drop at text) n i h lt in
    let inside : at + i < length text = omega (arith, within, length-drop at text) in
    let read : a ≡ get_or (drop at text) i 0 = c.char_after.ensures ∙ read_within text (at + i) a 0 inside
    ∙ sym (get_or-drop at text i 0) in
    let letter : b ≡ get_or letters i 0 = c.index-letters-index.is ∙ read_within letters i b 0 lt in
    let fails : IsLetter c.args.is_folded b a → ⊥ = search rules in
    fails (subst (λ z. IsLetter c.args.is_folded z a) (sym letter)
    (subst (λ z. IsLetter c.args.is_folded (get_or letters i 0) z) (sym read) is))
