-- Two rules one after the other are one.
use Rattle.std.proofs.Common.{◌≡◌, cond, refl, ap, ◌∙◌}
use Rattle.wax_walk.specs.Course.{Course, asks, stop, unknown, yields}
use Rattle.wax_walk.specs.Forest.{Forest, nothing, item, lists, filtered}
use Rattle.wax_walk.specs.Given.{Facts, Mark, kept, alone, with_tree, Given, entry, fault, no_memory}
use Rattle.wax_walk.specs.Given.{combined_mark, mark_by, with_mark, is_cut, changed_by, cut_by}
use Rattle.wax_walk.proofs.Filtered.{ruled_course}

-- what two rules say, one after the other
abbrev pub one_of : (Facts → Mark) → (Facts → Mark) → Facts → Mark
one_of first second f = combined_mark (first f) (second f)

pub combined_thrice : (a b c : Mark) → combined_mark (combined_mark a b) c
    ≡ combined_mark a (combined_mark b c)
combined_thrice with_tree b c = refl
combined_thrice kept b c = refl
combined_thrice alone with_tree c = refl
combined_thrice alone kept c = refl
combined_thrice alone alone with_tree = refl
combined_thrice alone alone kept = refl
combined_thrice alone alone alone = refl

marked_twice : (x : Given) (m n : Mark) → with_mark (with_mark x m) n ≡ with_mark x (combined_mark m n)
marked_twice (entry k f) m n = ap (λ v. entry v f) (combined_thrice k m n)
marked_twice (fault kind path depth) m n = refl
marked_twice no_memory m n = refl

said_twice : (first second : Facts → Mark) (x : Given)
    → combined_mark (mark_by first x) (mark_by second (changed_by first x)) ≡ mark_by (one_of first second) x
said_twice first second (entry k f) = refl
said_twice first second (fault kind path depth) = refl
said_twice first second no_memory = refl

-- what both rules leave below an item
cut_twice : {F : Type 0} (none : F) (second : F → F) → second none ≡ none
    → (x : Given) (m n : Mark) (below : F)
    → cond (is_cut (with_mark x m) n) none (second (cond (is_cut x m) none below))
    ≡ cond (is_cut x (combined_mark m n)) none (second below)
cut_twice none second stays (fault kind path depth) m n below = refl
cut_twice none second stays no_memory m n below = refl
cut_twice none second stays (entry with_tree f) m n below = refl
cut_twice none second stays (entry kept f) with_tree n below = stays
cut_twice none second stays (entry kept f) kept n below = refl
cut_twice none second stays (entry kept f) alone with_tree below = refl
cut_twice none second stays (entry kept f) alone kept below = refl
cut_twice none second stays (entry kept f) alone alone below = refl
cut_twice none second stays (entry alone f) with_tree n below = stays
cut_twice none second stays (entry alone f) kept n below = refl
cut_twice none second stays (entry alone f) alone with_tree below = refl
cut_twice none second stays (entry alone f) alone kept below = refl
cut_twice none second stays (entry alone f) alone alone below = refl

-- what two rules make of an item and of what is below and after it, in forests and in courses
rules_twice : {F : Type 0} (make : Given → F → F → F) (none : F) (first second both : F → F)
    (one two : Facts → Mark) (x : Given) (below after : F) → second none ≡ none
    → second (first below) ≡ both below → second (first after) ≡ both after
    → make (changed_by two (changed_by one x))
    (cond (cut_by two (changed_by one x)) none (second (cond (cut_by one x) none (first below))))
    (second (first after))
    ≡ make (changed_by (one_of one two) x) (cond (cut_by (one_of one two) x) none (both below)) (both after)
rules_twice make none first second both one two x below after stays under rest =
    let m = mark_by one x in
    let n = mark_by two (changed_by one x) in
    let said : combined_mark m n ≡ mark_by (one_of one two) x = said_twice one two x in
    λ i. make ((marked_twice x m n ∙ ap (with_mark x) said) i)
    ((cut_twice none second stays x m n (first below)
    ∙ ap (λ v. cond (is_cut x v) none (second (first below))) said
    ∙ ap (λ v. cond (cut_by (one_of one two) x) none v) under) i) (rest i)

-- what a forest is after a rule
abbrev pub ruled : (Facts → Mark) → Forest Given → Forest Given
ruled rule f = filtered (changed_by rule) (cut_by rule) f

pub filtered_twice : (first second : Facts → Mark) (f : Forest Given)
    → ruled second (ruled first f) ≡ ruled (one_of first second) f
filtered_twice first second nothing = refl
filtered_twice first second (lists path after) = ap (lists path) (filtered_twice first second after)
filtered_twice first second (item x below after) =
    rules_twice item nothing (ruled first) (ruled second) (ruled (one_of first second)) first
    second x below after refl
    (filtered_twice first second below) (filtered_twice first second after)

pub course_twice : (first second : Facts → Mark) (c : Course)
    → ruled_course second (ruled_course first c) ≡ ruled_course (one_of first second) c
course_twice first second stop = refl
course_twice first second unknown = refl
course_twice first second (asks q c) = ap (asks q) (course_twice first second c)
course_twice first second (yields x below after) =
    rules_twice yields stop (ruled_course first) (ruled_course second)
    (ruled_course (one_of first second)) first second
    x below after refl (course_twice first second below) (course_twice first second after)
