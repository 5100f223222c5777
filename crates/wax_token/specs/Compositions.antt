-- Whether the children of a token stand one after another, or one is chosen.
use Rattle.std.specs.{Prelude.{Option, Some, None, ⊤}, Borrow.Bor}
use Rattle.wax_token.specs.Syntax.{Tree, leaf, alternation, concatenation, repetition, Trees, none, more}
use Rattle.wax_token.specs.declared.token.composition.Composition.{Composition}
use Rattle.wax_token.specs.declared.token.composition.Composition.TheVariants.{Conjunctive, Disjunctive}

abbrev pub conjunctive : {C D : Type 0} → Composition C D → Option C
conjunctive (Conjunctive c) = Some c
conjunctive (Disjunctive d) = None

abbrev pub disjunctive : {C D : Type 0} → Composition C D → Option D
disjunctive (Conjunctive c) = None
disjunctive (Disjunctive d) = Some d

-- the value of either side
abbrev pub composition_value : {T : Type 0} → Composition T T → T
composition_value (Conjunctive t) = t
composition_value (Disjunctive t) = t

-- what the function returns for the value, on the same side
abbrev pub on_inner : {T U : Type 0} → (T → U) → Composition T T → Composition U U
on_inner f (Conjunctive t) = Conjunctive (f t)
on_inner f (Disjunctive t) = Disjunctive (f t)

-- what is behind the references
abbrev pub composition_copied : {C D : Type 0} → Composition (Bor C) (Bor D) → Composition C D
composition_copied (Conjunctive c) = Conjunctive c.now
composition_copied (Disjunctive d) = Disjunctive d.now

-- the branches of an alternation are a choice; all else is taken whole
abbrev pub composition_of : {A : Type 0} → Tree A → Composition ⊤ ⊤
composition_of (leaf a l) = Conjunctive tt
composition_of (alternation a ts) = Disjunctive tt
composition_of (concatenation a ts) = Conjunctive tt
composition_of (repetition a t low high) = Conjunctive tt

-- the tokens that a branch holds
abbrev pub children_of : {A : Type 0} → Tree A → Option (Composition (Trees A) (Trees A))
children_of (leaf a l) = None
children_of (alternation a ts) = Some (Disjunctive ts)
children_of (concatenation a ts) = Some (Conjunctive ts)
children_of (repetition a t low high) = Some (Conjunctive (more t none))
