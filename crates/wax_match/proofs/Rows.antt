-- Worked lengths of programs.
use Rattle.std.proofs.Common.{◌≡◌, true, false, Some, None, codes, refl}
use Rattle.wax_token.specs.Syntax.{Leaf, literal, separator, tree, Tree, leaf, alternation, concatenation}
use Rattle.wax_token.specs.{Syntax.{repetition, none, more}, Cost.program_length}

abbrev u : Unit {0}
u = tt

abbrev plain : Leaf → Tree (Unit {0})
plain l = leaf u l

-- the empty expression
pub length_empty : program_length (concatenation u none) ≡ 1
length_empty = refl

-- `a`
pub length_a : program_length (plain (literal false (codes "a"))) ≡ 2
length_a = refl

-- `**`
pub length_wildcard : program_length (plain (tree false)) ≡ 7
length_wildcard = refl

-- `a/**/b`
pub length_between : program_length (concatenation u (more (plain (literal false (codes "a")))
    (more (plain (tree true)) (more (plain (literal false (codes "b"))) none)))) ≡ 9
length_between = refl

-- `{a,b/c}`
pub length_branches : program_length (alternation tt
    (more (plain (literal false (codes "a")))
    (more (concatenation u (more (plain (literal false (codes "b")))
    (more (plain separator) (more (plain (literal false (codes "c"))) none)))) none))) ≡ 10
length_branches = refl

-- `<ab:2,3>`
pub length_copies : program_length (repetition u (plain (literal false (codes "ab"))) 2 (Some 3)) ≡ 15
length_copies = refl

-- `<a/>`
pub length_loop : program_length (repetition u
    (concatenation u (more (plain (literal false (codes "a"))) (more (plain separator) none))) 0 None) ≡ 7
length_loop = refl

-- `<a/**:2>`
pub length_wildcard_copies : program_length (repetition u (concatenation u
    (more (plain (literal false (codes "a"))) (more (plain (tree true)) none))) 2 (Some 2)) ≡ 48
length_wildcard_copies = refl
