-- Where the rules find no break, none is at any place of the tree.
use Rattle.std.proofs.Common.{List, None, Some, [], ◌++◌, ◌∷◌, ◌≡◌}
use Rattle.std.specs.List.{flat_map}
use Rattle.wax_token.specs.Reads.{Span}
use Rattle.wax_token.specs.Syntax.{Tree, Trees, alternation, concatenation, leaf, more, none, repetition}
use Rattle.wax_facts.specs.Rules.{adjacent_boundaries, alternative_breaks, boundary_breaks, bounds_breaks}
use Rattle.wax_facts.specs.{Rules.{branch_breaks, broken, size_breaks}, Alternatives.beside}
use Rattle.wax_facts.specs.Situated.{Situated, branch_levels, breadth_first, end_side, situated_levels}
use Rattle.wax_facts.specs.Situated.{member_levels, right_of}
use Rattle.wax_facts.proofs.Lists.{nil_left, nil_right}

abbrev Each : {X : Type 0} → (X → Type 0) → List X → Type 0
Each P [] = Unit {0}
Each P (x ∷ xs) = P x × Each P xs

each_parts : {X : Type 0} (P : X → Type 0) (xs ys : List X) → Each P (xs ++ ys) → Each P xs × Each P ys
each_parts P [] ys h = (tt, h)
each_parts P (x ∷ xs) ys h = let k : Each P xs × Each P ys = each_parts P xs ys h.1 in ((h.0, k.0), k.1)

abbrev EachLevel : {X : Type 0} → (X → Type 0) → List (List X) → Type 0
EachLevel P [] = Unit {0}
EachLevel P (x ∷ xs) = Each P x × EachLevel P xs

level_parts : {X : Type 0} (P : X → Type 0) (xs : List (List X))
    → Each P (flat_map (λ level. level) xs) → EachLevel P xs
level_parts P [] h = tt
level_parts P (x ∷ xs) h = let k : Each P x × Each P (flat_map (λ level. level) xs) =
    each_parts P x (flat_map (λ level. level) xs) h in (k.0, level_parts P xs k.1)

beside_parts : {X : Type 0} (P : X → Type 0) (xs ys : List (List X)) → EachLevel P (beside xs ys)
    → EachLevel P xs × EachLevel P ys
beside_parts P [] ys h = (tt, h)
beside_parts P (x ∷ xs) [] h = (h, tt)
beside_parts P (x ∷ xs) (y ∷ ys) h =
    let j : Each P x × Each P y = each_parts P x y h.0 in
    let k : EachLevel P xs × EachLevel P ys = beside_parts P xs ys h.1 in
    ((j.0, k.0), (j.1, k.1))

abbrev Kept : Situated → Type 0
Kept s = (boundary_breaks s.token ≡ []) × (bounds_breaks s.token ≡ [])
    × (branch_breaks s.left s.right s.token ≡ [])

none_each : {X B : Type 0} (g : X → List B) (xs : List X) → flat_map g xs ≡ [] → Each (λ x. g x ≡ []) xs
none_each g [] e = tt
none_each g (x ∷ xs) e =
    (nil_left (g x) (flat_map g xs) e, none_each g xs (nil_right (g x) (flat_map g xs) e))

each_three : (ss : List Situated) → Each (λ s. boundary_breaks s.token ≡ []) ss
    → Each (λ s. bounds_breaks s.token ≡ []) ss
    → Each (λ s. branch_breaks s.left s.right s.token ≡ []) ss → Each Kept ss
each_three [] e f g = tt
each_three (s ∷ ss) e f g = ((e.0, f.0, g.0), each_three ss e.1 f.1 g.1)

kept_each : (ss : List Situated) → flat_map (λ s. boundary_breaks s.token) ss
    ++ flat_map (λ s. bounds_breaks s.token) ss ++ flat_map (λ s. branch_breaks s.left s.right s.token) ss
    ++ flat_map (λ s. size_breaks s.token) ss ≡ [] → Each Kept ss
kept_each ss e =
    let i : flat_map (λ s. boundary_breaks s.token) ss ++ flat_map (λ s. bounds_breaks s.token) ss
    ++ flat_map (λ s. branch_breaks s.left s.right s.token) ss ≡ [] =
    nil_left
    (flat_map (λ s. boundary_breaks s.token) ss ++ flat_map (λ s. bounds_breaks s.token) ss ++ flat_map
    (λ s. branch_breaks s.left s.right s.token) ss) (flat_map (λ s. size_breaks s.token) ss) e in
    let j : flat_map (λ s. boundary_breaks s.token) ss ++ flat_map (λ s. bounds_breaks s.token) ss ≡ [] =
    nil_left (flat_map (λ s. boundary_breaks s.token) ss ++ flat_map (λ s. bounds_breaks s.token) ss)
    (flat_map (λ s. branch_breaks s.left s.right s.token) ss) i in
    each_three ss
    (none_each (λ s. boundary_breaks s.token) ss
    (nil_left (flat_map (λ s. boundary_breaks s.token) ss) (flat_map (λ s. bounds_breaks s.token) ss) j))
    (none_each (λ s. bounds_breaks s.token) ss
    (nil_right (flat_map (λ s. boundary_breaks s.token) ss) (flat_map (λ s. bounds_breaks s.token) ss) j))
    (none_each (λ s. branch_breaks s.left s.right s.token) ss
    (nil_right (flat_map (λ s. boundary_breaks s.token) ss ++ flat_map (λ s. bounds_breaks s.token) ss)
    (flat_map (λ s. branch_breaks s.left s.right s.token) ss) i))

abbrev pub before_these : Situated → Trees Span → Situated
before_these c ts = record { token = c.token; left = c.left; right = right_of ts c.right }

abbrev pub after_this : Situated → Tree Span → Situated
after_this c t = record { token = c.token; left = Some (end_side t); right = c.right }

abbrev mutual
  pub Lawful : Situated → Tree Span → Type 0
  Lawful c (leaf a x) = Unit {0}
  Lawful c (alternation a ts) = (alternative_breaks a c.left c.right ts ≡ []) × LawfulSome c ts
  Lawful c (concatenation a ts) = (adjacent_boundaries ts ≡ []) × LawfulEach c ts
  Lawful c (repetition a t low high) = (bounds_breaks (repetition a t low high) ≡ [])
      × (branch_breaks c.left c.right (repetition a t low high) ≡ []) × Lawful c t

  pub LawfulSome : Situated → Trees Span → Type 0
  LawfulSome c none = Unit {0}
  LawfulSome c (more t ts) = Lawful c t × LawfulSome c ts

  pub LawfulEach : Situated → Trees Span → Type 0
  LawfulEach c none = Unit {0}
  LawfulEach c (more t ts) = Lawful (before_these c ts) t × LawfulEach (after_this c t) ts

mutual
  lawful : (c : Situated) (t : Tree Span) → EachLevel Kept (situated_levels c.left c.right t) → Lawful c t
  lawful c (leaf a x) h = tt
  lawful c (alternation a ts) h = (h.0.0.2, lawful_some c ts h.1)
  lawful c (concatenation a ts) h = (h.0.0.0, lawful_each c ts h.1)
  lawful c (repetition a t low high) h = (h.0.0.1, h.0.0.2, lawful c t h.1)

  lawful_some : (c : Situated) (ts : Trees Span)
      → EachLevel Kept (branch_levels c.left c.right ts) → LawfulSome c ts
  lawful_some c none h = tt
  lawful_some c (more t ts) h =
      let k : EachLevel Kept (situated_levels c.left c.right t)
      × EachLevel Kept (branch_levels c.left c.right ts) =
      beside_parts Kept (situated_levels c.left c.right t) (branch_levels c.left c.right ts) h in
      (lawful c t k.0, lawful_some c ts k.1)

  lawful_each : (c : Situated) (ts : Trees Span)
      → EachLevel Kept (member_levels c.left c.right ts) → LawfulEach c ts
  lawful_each c none h = tt
  lawful_each c (more t ts) h =
      let k : EachLevel Kept (situated_levels c.left (right_of ts c.right) t)
      × EachLevel Kept (member_levels (Some (end_side t)) c.right ts) =
      beside_parts Kept (situated_levels c.left (right_of ts c.right) t)
      (member_levels (Some (end_side t)) c.right ts) h in
      (lawful (before_these c ts) t k.0, lawful_each (after_this c t) ts k.1)

abbrev pub top : Tree Span → Situated
top t = record { token = t; left = None; right = None }

pub broken_lawful : (t : Tree Span) → broken t ≡ [] → Lawful (top t) t
broken_lawful t e =
    lawful (top t) t (level_parts Kept (situated_levels None None t) (kept_each (breadth_first t) e))
