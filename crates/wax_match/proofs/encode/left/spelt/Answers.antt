use Rattle.std.proofs.Common.{◌≡◌, ◌∙◌, [], ◌∷◌, ap, arith, subst, sym, false}
use Rattle.wax_match.proofs.{LeftCosts.slash_one, Lefts.{spelt_literal, spelt_separator}}
use Rattle.wax_match.specs.{declared.encode.left.Gap.TheVariants.Nothing, inner.Left.{AreSame, SpeltMeans}}
use Rattle.wax_token.specs.{Cost.cost, Meaning.Means, Syntax.{leaf, literal}, View.leaf_of}
use Rattle.wax_token.specs.Words.{annotation_of}
use Rattle.wax_match.proofs.encode.left.spelt.Goals as goal

pub returns-else-is_case_insensitive-clause-means : goal.returns-else-is_case_insensitive-clause-means
returns-else-is_case_insensitive-clause-means c =
    let t = c.args.token.now in
    let l = c.in-Literal.literal in
    let is : t ≡ leaf (annotation_of t) (literal l.0 l.1) =
    c.in_ok-literal.ensures.some ∙ ap (λ z. leaf (annotation_of t) (leaf_of z)) c.in-Literal.is in
    let plain : l.0 ≡ false = sym c.is_case_insensitive.ensures ∙ c.if-is_case_insensitive.false in
    let same : t ≡ leaf (annotation_of t) (literal false l.1) =
    is ∙ ap (λ b. leaf (annotation_of t) (literal b l.1)) plain in
    subst
    (λ z. AreSame (SpeltMeans c.text.result.now Nothing) (Means z c.args.sides.before c.args.sides.after))
    (sym same) (spelt_literal c.text.result.now l.1 c.text.ensures)

pub returns-in-Separator-clause-means : goal.returns-in-Separator-clause-means
returns-in-Separator-clause-means c =
    let t = c.args.token.now in
    let is = c.in_ok-literal.ensures.some ∙ ap (λ z. leaf (annotation_of t) (leaf_of z)) c.in-Separator.is in
    subst (λ z. AreSame (SpeltMeans (47 ∷ []) Nothing) (Means z c.args.sides.before c.args.sides.after))
    (sym is) spelt_separator

pub returns-in-Separator-clause-cost : goal.returns-in-Separator-clause-cost
returns-in-Separator-clause-cost c =
    let t = c.args.token.now in
    let is = c.in_ok-literal.ensures.some ∙ ap (λ z. leaf (annotation_of t) (leaf_of z)) c.in-Separator.is in
    omega (arith, slash_one, ap cost is)
