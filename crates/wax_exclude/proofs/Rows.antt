-- Worked examples: which components lead, and what is covered.
use Rattle.std.proofs.Common.{◌≡◌, ℕ, false, true, List, [], ◌∷◌, Some, refl, codes}
use Rattle.wax_facts.specs.Alternatives.{alternatives}
use Rattle.wax_token.specs.declared.token.Evaluation.TheVariants.{Eager}
use Rattle.wax_token.specs.Syntax.{Tree, leaf, alternation, concatenation, repetition, literal, separator}
use Rattle.wax_token.specs.{Syntax.{zero_or_more, tree}, Words.trees}
use Rattle.wax_exclude.specs.{Candidates.{candidate_at, text_at}, Covers.covers_test, Leading.leading_of}

-- tokens, without what the parser knows of them
abbrev text : List ℕ → Tree ℕ
text s = leaf 0 (literal false s)

abbrev slash : Tree ℕ
slash = leaf 0 separator

abbrev star : Tree ℕ
star = leaf 0 (zero_or_more Eager)

-- `**` or `**/`, and `/**` or `/**/`
abbrev wild : Tree ℕ
wild = leaf 0 (tree false)

abbrev rooted_wild : Tree ℕ
rooted_wild = leaf 0 (tree true)

abbrev glob : List (Tree ℕ) → Tree ℕ
glob ts = concatenation 0 (trees ts)

-- `tests/**`
pub folder_leads : leading_of false (glob (text (codes "tests") ∷ rooted_wild ∷ []))
    ≡ (text (codes "tests") ∷ []) ∷ []
folder_leads = refl

-- `src/*.rs`
pub name_leads : leading_of false (glob (text (codes "src") ∷ slash ∷ star ∷ text (codes ".rs") ∷ []))
    ≡ (text (codes "src") ∷ []) ∷ (star ∷ text (codes ".rs") ∷ []) ∷ []
name_leads = refl

-- `**/src/**/*.rs`
pub wild_leads_none :
    leading_of false (glob (wild ∷ text (codes "src") ∷ rooted_wild ∷ star ∷ text (codes ".rs") ∷ [])) ≡ []
wild_leads_none = refl

-- `/a/*` from the root
pub root_leads : leading_of true (glob (slash ∷ text (codes "a") ∷ slash ∷ star ∷ []))
    ≡ (text (codes "a") ∷ []) ∷ (star ∷ []) ∷ []
root_leads = refl

-- `/**` from the root
pub root_wild_leads_none : leading_of true (glob (rooted_wild ∷ [])) ≡ []
root_wild_leads_none = refl

-- `/<a:0,1>/**` doesn't cover the start, though it means `/`
pub start_uncovered :
    covers_test (alternatives (glob (slash ∷ repetition 0 (text (codes "a")) 0 (Some 1) ∷ rooted_wild ∷ [])))
    (candidate_at true []) ≡ false
start_uncovered = refl

-- `{src,**}` covers the start
pub start_covered :
    covers_test (alternatives (alternation 0 (trees (text (codes "src") ∷ wild ∷ []))))
    (candidate_at false []) ≡ true
start_covered = refl

-- the empty glob covers nothing
pub empty_covers_none : covers_test (alternatives (glob [])) (candidate_at false (codes "doc" ∷ [])) ≡ false
empty_covers_none = refl

-- the names of `src/lib.rs` from the root
pub root_text : text_at true (codes "src" ∷ codes "lib.rs" ∷ []) ≡ codes "/src/lib.rs"
root_text = refl
