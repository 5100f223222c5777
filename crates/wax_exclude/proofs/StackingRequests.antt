-- Rules one after another.
use Rattle.std.proofs.Common.{◌≡◌, cond, List, [], ◌∷◌, ◌++◌, map, refl, sym, ap, ◌∙◌}
use Rattle.wax_walk.specs.{Candidates.{Candidate, of_candidate}, Forest.{Forest, nothing, item, lists}}
use Rattle.wax_walk.specs.Given.{Facts, Mark, kept, alone, with_tree, combined_mark, Given, entry, fault}
use Rattle.wax_walk.specs.Given.{no_memory, changed_by, cut_by}
use Rattle.wax_walk.specs.Course.{Course, asks, stop, unknown, yields}
use Rattle.wax_exclude.specs.{Wanted.{Filter, filter_mark, filter_rules, stacked}, GlobRequests.AreRulesOf}
use Rattle.wax_tree.specs.Programs.{any_mark}
use Rattle.wax_tree.proofs.Combining.{combined_thrice, course_twice, filtered_twice, ruled}
use Rattle.wax_walk.proofs.Filtered.{ruled_course}

pub stacked_more : (rules others : List (Facts → Mark)) (f : Forest Given)
    → stacked (rules ++ others) f ≡ stacked others (stacked rules f)
stacked_more [] others f = refl
stacked_more (rule ∷ rules) others f = stacked_more rules others (ruled rule f)

pub filter_rules_more : {A : Type 0} (xs ys : List (Filter A))
    → filter_rules (xs ++ ys) ≡ filter_rules xs ++ filter_rules ys
filter_rules_more [] ys = refl
filter_rules_more (x ∷ xs) ys = ap (λ v. of_candidate (filter_mark x) ∷ v) (filter_rules_more xs ys)

-- ---- all at once

-- a rule that says nothing changes no item, and cuts nothing below one
changed_nothing : {F : Type 0} (make : Given → F → F → F) (none : F) (x : Given) {b c a d : F} → b ≡ c → a ≡ d
    → make (changed_by (any_mark []) x) (cond (cut_by (any_mark []) x) none b) a ≡ make x c d
changed_nothing make none (entry kept f) e k = λ i. make (entry kept f) (e i) (k i)
changed_nothing make none (entry alone f) e k = λ i. make (entry alone f) (e i) (k i)
changed_nothing make none (entry with_tree f) e k = λ i. make (entry with_tree f) (e i) (k i)
changed_nothing make none (fault kind path depth) e k = λ i. make (fault kind path depth) (e i) (k i)
changed_nothing make none no_memory e k = λ i. make no_memory (e i) (k i)

pub unruled : (f : Forest Given) → ruled (any_mark []) f ≡ f
unruled nothing = refl
unruled (lists path after) = ap (lists path) (unruled after)
unruled (item x below after) = changed_nothing item nothing x (unruled below) (unruled after)

pub stacked_any : (rules : List (Facts → Mark)) (f : Forest Given)
    → stacked rules f ≡ ruled (any_mark rules) f
stacked_any [] f = sym (unruled f)
stacked_any (rule ∷ rules) f = stacked_any rules (ruled rule f) ∙ filtered_twice rule (any_mark rules) f

-- rules of candidates are rules of entries, one by one and all at once
abbrev pub of_candidates : List (Candidate → Mark) → List (Facts → Mark)
of_candidates rules = map of_candidate rules

pub any_of_candidates : (rules : List (Candidate → Mark)) (f : Facts)
    → of_candidate (any_mark rules) f ≡ any_mark (of_candidates rules) f
any_of_candidates [] f = refl
any_of_candidates (rule ∷ rules) f = ap (combined_mark (of_candidate rule f)) (any_of_candidates rules f)

-- the rules of filters decide as their marks
pub any_filters : {A : Type 0} (filters : List (Filter A)) (rules : List (Candidate → Mark)) (f : Facts)
    → AreRulesOf filters rules → any_mark (of_candidates rules) f ≡ any_mark (filter_rules filters) f
any_filters [] [] f h = refl
any_filters [] (rule ∷ rules) f h = absurd h
any_filters (x ∷ filters) [] f h = absurd h
any_filters (x ∷ filters) (rule ∷ rules) f h =
    λ i. combined_mark (of_candidate (λ c. h.0 c i) f) (any_filters filters rules f h.1 i)

combined_kept : (m : Mark) → combined_mark m kept ≡ m
combined_kept kept = refl
combined_kept alone = refl
combined_kept with_tree = refl

-- one rule alone
pub any_alone : (rule : Facts → Mark) → any_mark (rule ∷ []) ≡ rule
any_alone rule = λ i f. combined_kept (rule f) i

-- some rules and others
pub any_both : (rules others : List (Facts → Mark)) (f : Facts)
    → combined_mark (any_mark rules f) (any_mark others f) ≡ any_mark (rules ++ others) f
any_both [] others f = refl
any_both (rule ∷ rules) others f = combined_thrice (rule f) (any_mark rules f) (any_mark others f)
    ∙ ap (combined_mark (rule f)) (any_both rules others f)

-- ---- courses

pub course_more : (rules others : List (Facts → Mark)) (c : Course)
    → ruled_course (any_mark others) (ruled_course (any_mark rules) c)
    ≡ ruled_course (any_mark (rules ++ others)) c
course_more rules others c = course_twice (any_mark rules) (any_mark others) c
    ∙ (λ i. ruled_course (λ f. any_both rules others f i) c)

-- a rule that says nothing changes nothing
pub course_unruled : (c : Course) → ruled_course (any_mark []) c ≡ c
course_unruled stop = refl
course_unruled unknown = refl
course_unruled (asks q c) = ap (asks q) (course_unruled c)
course_unruled (yields x below after) =
    changed_nothing yields stop x (course_unruled below) (course_unruled after)
