-- What the options of a walk exclude, one after another.
use Rattle.std.proofs.Common.{◌≡◌, List, [], ◌∷◌, ◌++◌, refl, sym, ap, subst, ◌∙◌, append_assoc}
use Rattle.std.proofs.lemmas.List.{append-nil}
use Rattle.std.specs.Prelude.{Option, String}
use Rattle.wax_exclude.specs.{GlobRequests.AreRulesOf, Wanted.Filter}
use Rattle.wax_token.specs.Reads.{Span}
use Rattle.wax_walk.specs.{Candidates.Candidate, Given.Mark}
use Rattle.wax_command_line.specs.{Commands.{WalkOption, SayEach}, WalkArguments.{HasNoNext, IsNext}}
use Rattle.wax_commands.specs.Files.{FileAnswers}
use Rattle.wax_commands.specs.Walked.{AreAskedBy, AreAskedByAll, HasRefused, IsRefusedOption}
use Rattle.wax_command_line.proofs.OptionWords.{next_says, says_none}

rules_more : (xs ys : List (Filter Span)) (rules others : List (Candidate → Mark)) → AreRulesOf xs rules
    → AreRulesOf ys others → AreRulesOf (xs ++ ys) (rules ++ others)
rules_more [] ys [] others h k = k
rules_more [] ys (rule ∷ rules) others h k = absurd h
rules_more (x ∷ xs) ys [] others h k = absurd h
rules_more (x ∷ xs) ys (rule ∷ rules) others h k = (h.0, rules_more xs ys rules others h.1 k)

none_left : {A : Type 0} (rest : List (Option (String A))) (left : List WalkOption) → SayEach rest left
    → HasNoNext rest → left ≡ []
none_left rest [] s e = refl
none_left rest (o ∷ left) s e = let none : rest ≡ [] = says_none rest (o ∷ left) e s in
    absurd (subst (λ ws. SayEach ws (o ∷ left)) none s)

module _ {Z : Type 0} (answers : FileAnswers Z) where
  asked_more : (os : List WalkOption) (o : WalkOption) (xs ys : List (Filter Span))
      → AreAskedByAll answers os xs → AreAskedBy answers o ys
      → AreAskedByAll answers (os ++ o ∷ []) (xs ++ ys)
  asked_more [] o xs ys h k = (ys, [], k, refl, ap (λ v. v ++ ys) h ∙ sym (append-nil ys))
  asked_more (u ∷ os) o xs ys h k =
      (h.0, h.1 ++ ys, h.2, asked_more os o h.1 ys h.3 k, ap (λ v. v ++ ys) h.4 ∙ append_assoc h.0 h.1 ys)

  -- the first of these options were taken and their filters were built; the rest of the arguments spells the
  -- others
  pub record SoFar {A : Type 0} (rest : List (Option (String A))) (asked : List WalkOption)
      (rules : List (Candidate → Mark)) : Type 0 where
    pub front : List WalkOption
    pub left : List WalkOption
    pub all : asked ≡ front ++ left
    pub says : SayEach rest left
    pub filters : List (Filter Span)
    pub built : AreAskedByAll answers front filters
    pub are : AreRulesOf filters rules

  pub so_far_none : {A : Type 0} (words : List (Option (String A))) (asked : List WalkOption)
      → SayEach words asked → SoFar words asked []
  so_far_none words asked h = record {
    front = [];
    left = asked;
    all = refl;
    says = h;
    filters = [];
    built = refl;
    are = tt;
  }

  module _ {A : Type 0} (now rest : List (Option (String A))) (o : WalkOption) (asked : List WalkOption)
      (rules : List (Candidate → Mark))
      (h : SoFar now asked rules) (n : IsNext now o rest) where
    abbrev taken : (vs : List WalkOption) × SayEach rest vs × (h.left ≡ o ∷ vs)
    taken = next_says now rest h.left o n h.says

    -- what one more option asks for
    pub so_far_more : (more : List (Candidate → Mark)) → (xs : List (Filter Span))
        × (others : List (Candidate → Mark))
        × AreAskedBy answers o xs × AreRulesOf xs others × (more ≡ rules ++ others) → SoFar rest asked more
    so_far_more more added = record {
      front = h.front ++ o ∷ [];
      left = taken.0;
      all = h.all ∙ (ap (λ v. h.front ++ v) taken.2 ∙ sym (append_assoc h.front (o ∷ []) taken.0));
      says = taken.1;
      filters = h.filters ++ added.0;
      built = asked_more h.front o h.filters added.0 h.built added.2;
      are = subst (AreRulesOf (h.filters ++ added.0)) (sym added.4)
          (rules_more h.filters added.0 rules added.1 h.are added.3);
    }

    -- the first option whose filter can't be built
    pub so_far_refused : IsRefusedOption answers o → HasRefused answers asked
    so_far_refused refused = record {
      before = h.front;
      filters = h.filters;
      built = h.built;
      option = o;
      refused = refused;
      after = taken.0;
      all = h.all ∙ ap (λ v. h.front ++ v) taken.2;
    }

  -- the end
  pub so_far_all : {A : Type 0} (rest : List (Option (String A))) (asked : List WalkOption)
      (rules : List (Candidate → Mark)) → SoFar rest asked rules → HasNoNext rest
      → (xs : List (Filter Span)) × AreAskedByAll answers asked xs × AreRulesOf xs rules
  so_far_all rest asked rules h e =
      let all : asked ≡ h.front =
      h.all ∙ (ap (λ v. h.front ++ v) (none_left rest h.left h.says e) ∙ append-nil h.front) in
      (h.filters, subst (λ os. AreAskedByAll answers os h.filters) (sym all) h.built, h.are)
