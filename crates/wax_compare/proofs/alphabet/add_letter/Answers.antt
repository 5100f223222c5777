use Rattle.std.proofs.Common.{Contains, ◌<◌, sym, subst, arith, inl, inr}
use Rattle.std.proofs.lemmas.List.Elements.{Contains-push}
use Rattle.wax_compare.specs.inner.Cutting.{IsInBlock}
use Rattle.wax_compare.proofs.Letters.{block_same, sided}
use Rattle.wax_compare.proofs.alphabet.add_letter.Goals as goal

pub letter_between-requires : goal.letter_between-requires
letter_between-requires c = λ low below.
    elim (sided c.args.cuts.now c.requires.rises c.args.index 57344 c.requires.within c.requires.after) [
      | inl before ↦ (let no : ⊥ = omega (arith, before, below) in absurd no)
      | inr after ↦ omega (arith, after, c.cut_or_end-high.ensures)
    ]

pub returns-clause-serves : goal.returns-clause-serves
returns-clause-serves c = λ ch scalar inside.
    let letter = c.in-Some.letter in
    let cuts = c.args.cuts.now in
    let some = c.in-Some.ensures.some in
    let here : IsInBlock cuts c.args.index letter =
    (some.0, subst (λ n. letter < n) c.cut_or_end-high.ensures some.1) in (
      letter,
      subst (λ z. Contains z letter) (sym c.in_ok-push.ensures.items)
          (Contains-push c.args.letters.now.items letter),
      c.in-Some.ensures.small,
      block_same cuts c.requires.rises c.args.index ch letter c.requires.within inside here,
    )
