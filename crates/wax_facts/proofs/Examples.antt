-- Worked examples: the trees of expressions, and what is sure of them.
use Rattle.std.proofs.Common.{◌≡◌, ℕ, true, false, List, [], ◌∷◌, Option, Some, None, refl}
use Rattle.wax_query.specs.declared.query.when.When.{When}
use Rattle.wax_query.specs.declared.query.when.When.TheVariants.{Never, Sometimes, Always}
use Rattle.wax_token.specs.declared.token.Evaluation.TheVariants.{Eager}
use Rattle.wax_token.specs.Syntax.{Tree, leaf, alternation, concatenation, repetition, literal, separator}
use Rattle.wax_token.specs.{Syntax.{zero_or_more, tree}, Words.trees}
use Rattle.wax_facts.specs.{Root.root, Exhaustive.exhaustive}

abbrev Plain : Type 0
Plain = Tree ℕ

abbrev glob : List Plain → Plain
glob ts = concatenation 0 (trees ts)

abbrev letter : Plain
letter = leaf 0 (literal false (97 ∷ []))

abbrev slash : Plain
slash = leaf 0 separator

abbrev star : Plain
star = leaf 0 (zero_or_more Eager)

-- `**`, and `/**`
abbrev deep : Plain
deep = leaf 0 (tree false)

abbrev rooted : Plain
rooted = leaf 0 (tree true)

abbrev either : List Plain → Plain
either ts = alternation 0 (trees ts)

abbrev copies : List Plain → ℕ → Option ℕ → Plain
copies ts low high = repetition 0 (glob ts) low high

abbrev end_of : Plain → When
end_of t = exhaustive t

abbrev start_of : Plain → When
start_of t = root t

-- ---- what lies below: `**`, `a/**`, `/**`, `<a/**:1,>`, `{a/**,b/**}`, `x{/**}`
always : (end_of (glob (deep ∷ [])) ≡ Always)
    × (end_of (glob (letter ∷ rooted ∷ [])) ≡ Always)
    × (end_of (glob (rooted ∷ [])) ≡ Always)
    × (end_of (glob (copies (letter ∷ rooted ∷ []) 1 None ∷ [])) ≡ Always)
    × (end_of (glob (either (glob (letter ∷ rooted ∷ []) ∷ glob (letter ∷ rooted ∷ []) ∷ []) ∷ [])) ≡ Always)
    × (end_of (glob (letter ∷ either (glob (rooted ∷ []) ∷ []) ∷ [])) ≡ Always)
always = (refl, refl, refl, refl, refl, refl)

-- `{a/**,**/b}`
abbrev mixed : Plain
mixed = either (glob (letter ∷ rooted ∷ []) ∷ glob (deep ∷ letter ∷ []) ∷ [])

-- `{{<a:1,>{/**},**/b},c/**}`
abbrev nested : Plain
nested = either (glob (either (glob (copies (letter ∷ []) 1 None ∷ either (glob (rooted ∷ []) ∷ []) ∷ [])
    ∷ glob (deep ∷ letter ∷ []) ∷ []) ∷ []) ∷ glob (letter ∷ rooted ∷ []) ∷ [])

-- `<a/**>`, `<a/**:0,0>`, `x<a/**:0,1>`, `{a/**,**/b}`, `<{a/**,**/b}:1>` and the nested one
sometimes : (end_of (glob (copies (letter ∷ rooted ∷ []) 0 None ∷ [])) ≡ Sometimes)
    × (end_of (glob (copies (letter ∷ rooted ∷ []) 0 (Some 0) ∷ [])) ≡ Sometimes)
    × (end_of (glob (letter ∷ copies (letter ∷ rooted ∷ []) 0 (Some 1) ∷ [])) ≡ Sometimes)
    × (end_of (glob (mixed ∷ [])) ≡ Sometimes)
    × (end_of (glob (copies (mixed ∷ []) 1 (Some 1) ∷ [])) ≡ Sometimes)
    × (end_of (glob (nested ∷ [])) ≡ Sometimes)
sometimes = (refl, refl, refl, refl, refl, refl)

-- the empty one, `**/a`, `a/*`, `<*/>`, `a/<*/>*`, `<a/**:1,>x`, `{**/a,**/b}`
never : (end_of (leaf 0 (literal false [])) ≡ Never)
    × (end_of (glob (deep ∷ letter ∷ [])) ≡ Never)
    × (end_of (glob (letter ∷ slash ∷ star ∷ [])) ≡ Never)
    × (end_of (glob (copies (star ∷ slash ∷ []) 0 None ∷ [])) ≡ Never)
    × (end_of (glob (letter ∷ slash ∷ copies (star ∷ slash ∷ []) 0 None ∷ star ∷ [])) ≡ Never)
    × (end_of (glob (copies (letter ∷ rooted ∷ []) 1 None ∷ letter ∷ [])) ≡ Never)
    × (end_of (glob (either (glob (deep ∷ letter ∷ []) ∷ glob (deep ∷ letter ∷ []) ∷ []) ∷ [])) ≡ Never)
never = (refl, refl, refl, refl, refl, refl, refl)

-- ---- roots: `<</a:1,>:0,1>b`, and `</a:2>*`
roots :
    (start_of (glob (copies (copies (slash ∷ letter ∷ []) 1 None ∷ []) 0 (Some 1) ∷ letter ∷ [])) ≡ Sometimes)
    × (start_of (glob (copies (slash ∷ letter ∷ []) 2 (Some 2) ∷ star ∷ [])) ≡ Always)
roots = (refl, refl)
