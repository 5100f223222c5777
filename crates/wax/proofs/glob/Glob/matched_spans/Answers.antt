use Rattle.std.proofs.Common.{◌≡◌, ◌∙◌, false, List, ℕ, chars, encode_utf8_all, IfOk, MatchOption, ap, sym}
use Rattle.std.proofs.{Common.{subst, Option, Some, None, Result, Ok, Err}, lemmas.Str.encodes-chars}
use Rattle.std.specs.{Global.Vec, Str.IsUtf8}
use Rattle.wax_capture.specs.{Matched.AreSpans, Pieces.ArePieces}
use Rattle.wax_facts.proofs.Means.{as_members, of_members}
use Rattle.wax_token.specs.{Meaning.{Means, MeansEach}, Reads.Span, Words.members}
use Rattle.wax.specs.GlobView.{GlobView, HasSpans, IsMeant}
use Rattle.wax.proofs.glob.Glob.matched_spans.Goals as goal

-- where the pieces capture, the glob does
module _ (g : GlobView) (text path : List ℕ) (u : IsUtf8 text) (same : chars text ≡ path) where
  of_pieces : (found : Option (Vec Span))
      → MatchOption found (MeansEach (members g.tree) false false (chars text) → ⊥)
      (λ spans. AreSpans (members g.tree) text spans.items)
      → MatchOption found (IsMeant g path → ⊥)
      (λ spans. IsMeant g path × HasSpans g (encode_utf8_all path) spans.items)
  of_pieces None none =
      λ meant. none (as_members g.tree false false (chars text)
      (subst (Means g.tree false false) (sym same) meant))
  of_pieces (Some spans) are = (
    subst (Means g.tree false false) same (of_members g.tree false false (chars text) are.means),
    subst (λ bytes. AreSpans (members g.tree) bytes spans.items)
        (sym (encodes-chars text u) ∙ ap encode_utf8_all same) are,
  )

  if_ok : {E : Type 0} (r : Result (Option (Vec Span)) E)
      → IfOk r (λ found. MatchOption found (MeansEach (members g.tree) false false (chars text) → ⊥)
      (λ spans. AreSpans (members g.tree) text spans.items))
      → IfOk r (λ found. MatchOption found (IsMeant g path → ⊥)
      (λ spans. IsMeant g path × HasSpans g (encode_utf8_all path) spans.items))
  if_ok (Ok found) h = of_pieces found h
  if_ok (Err e) h = h

pub returns : goal.returns
returns c =
    let tree : c.self.inside.checked.token ≡ c.args.self.now.tree = ap (λ g. g.tree) c.self.view_is in
    let split : ArePieces (members c.args.self.now.tree) false false c.self.inside.pieces =
    subst (λ t. ArePieces (members t) false false c.self.inside.pieces) tree c.self.invariant.split in
    if_ok c.args.self.now c.as_str-text.result.now c.args.path.now c.as_str-text.utf8 c.as_str-text.ensures
    c.spans.result (c.spans.ensures (members c.args.self.now.tree) split)
