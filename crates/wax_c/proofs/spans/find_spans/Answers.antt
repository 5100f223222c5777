-- The bytes of the path are those of its characters.
use Rattle.std.proofs.Common.{◌≡◌, ◌∙◌, List, ℕ, chars, encode_utf8_all, IfOk, MatchOption, ap, subst, Option}
use Rattle.std.proofs.{Common.{Some, None, Result, Ok, Err, sym}, lemmas.Str.encodes-chars}
use Rattle.std.specs.{Global.Vec, Str.IsUtf8}
use Rattle.wax.specs.{GlobView.{GlobView, HasSpans, IsMeant}, Language.Span}
use Rattle.wax_c.proofs.spans.find_spans.Goals as goal

module _ (g : GlobView) (text path : List ℕ) (u : IsUtf8 text) (same : path ≡ chars text) where
  in_bytes : (found : Option (Vec Span))
      → MatchOption found (IsMeant g path → ⊥)
      (λ spans. IsMeant g path × HasSpans g (encode_utf8_all path) spans.items)
      → MatchOption found (IsMeant g (chars text) → ⊥)
      (λ spans. IsMeant g (chars text) × HasSpans g text spans.items)
  in_bytes None none = λ meant. none (subst (IsMeant g) (sym same) meant)
  in_bytes (Some spans) has = (
    subst (IsMeant g) same has.0,
    subst (λ bytes. HasSpans g bytes spans.items) (ap encode_utf8_all same ∙ encodes-chars text u) has.1,
  )

  if_ok : {E : Type 0} (r : Result (Option (Vec Span)) E)
      → IfOk r (λ found. MatchOption found (IsMeant g path → ⊥)
      (λ spans. IsMeant g path × HasSpans g (encode_utf8_all path) spans.items))
      → IfOk r (λ found. MatchOption found (IsMeant g (chars text) → ⊥)
      (λ spans. IsMeant g (chars text) × HasSpans g text spans.items))
  if_ok (Ok found) h = in_bytes found h
  if_ok (Err e) h = h

pub returns : goal.returns
returns c =
    if_ok c.args.glob.now c.args.path.now c.from.result c.utf8.path c.from.ensures c.matched_spans-2.result
    c.matched_spans-2.ensures
