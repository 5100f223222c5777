-- The leaves that the parser reads are those that are spelled.
use Rattle.std.proofs.Common.{true≢false, ◌≡◌, ◌≢◌, ℕ, ◌<◌, ◌||◌, Bool, true, false, List, [], ◌∷◌, ◌++◌}
use Rattle.std.proofs.Common.{length, Option, Some, None, if◌then◌else◌, ◌==◌, codes, refl, sym, ◌∙◌, ap}
use Rattle.std.proofs.Common.{subst, inl, inr, arith, append_assoc, eqb-true}
use Rattle.std.specs.List.{list_any}
use Rattle.wax_token.specs.{declared.token.Archetype.Archetype, declared.token.Evaluation.Evaluation}
use Rattle.wax_token.specs.declared.token.Evaluation.TheVariants.{Eager, Lazy}
use Rattle.wax_token.specs.Syntax.{Leaf, literal, class, separator, one, zero_or_more, tree}
use Rattle.wax_token.specs.Reads.{is_one_of, starts_with_one_of, escapable, all_spelled, NoLiteralFollows}
use Rattle.wax_token.specs.Reads.{archetypes_text, class_text, AllPlain, Place, Past, Around, no_flags}
use Rattle.wax_token.specs.Reads.{NoWildcardFollows, TreeCloses, TreeFollows, ReadsLeaf}
use Rattle.wax_parse.specs.inner.Parser.{at, flags_end, with_flag, after_star, star_after, put, literal_run}
use Rattle.wax_parse.specs.inner.Parser.{literal_leaf, after_tree, boundary_leaf, zero_or_more_leaf}
use Rattle.wax_parse.specs.inner.Parser.{inner_leaf, first_leaf, read_leaf, class_run, class_leaf, read_class}
use Rattle.wax_parse.specs.inner.Reading.{HasProperSuffix}
use Rattle.wax_parse.proofs.Runs.{none_some, or_false}
use Rattle.wax_parse.proofs.Classes.{outside, not_member, closing, class_run_complete, class_run_sound}
use Rattle.wax_parse.proofs.{Classes.GoodRun, Flags.flags_text}
use Rattle.wax_parse.proofs.Trees.{TreeFrom, TreeIf, tree_sound, tree_complete, follows_sound}
use Rattle.wax_parse.proofs.Trees.{follows_complete, no_wildcard_sound, no_wildcard_complete}

-- ---- the run of a literal
abbrev as_spelled : ℕ → Bool → List ℕ
as_spelled c b = if b then 92 ∷ c ∷ [] else c ∷ []

spelled-special : (c : ℕ) (t : List ℕ) → is_one_of escapable c ≡ true
    → all_spelled escapable (c ∷ t) ≡ 92 ∷ c ∷ all_spelled escapable t
spelled-special c t e = ap (λ b. as_spelled c b ++ all_spelled escapable t) e

spelled-plain : (c : ℕ) (t : List ℕ) → is_one_of escapable c ≡ false
    → all_spelled escapable (c ∷ t) ≡ c ∷ all_spelled escapable t
spelled-plain c t e = ap (λ b. as_spelled c b ++ all_spelled escapable t) e

abbrev is_unclean : List ℕ → Bool
is_unclean t = list_any (is_one_of (47 ∷ 92 ∷ [])) t

abbrev Stops : List ℕ → Type 0
Stops [] = Unit {0}
Stops (c ∷ cs) = is_one_of (92 ∷ 47 ∷ escapable) c ≡ true

-- a run and what follows it
abbrev Run : List ℕ → List ℕ × List ℕ → Type 0
Run p r = (p ≡ all_spelled escapable r.0 ++ r.1) × (is_unclean r.0 ≡ false) × Stops r.1

clean_special : (c : ℕ) → is_one_of escapable c ≡ true → is_one_of (47 ∷ 92 ∷ []) c ≡ false
clean_special c e = let f : (47 == c) ≡ false = outside escapable 47 c refl e in
    let g : (92 == c) ≡ false = outside escapable 92 c refl e in rw (f, g) refl

clean_plain : (c : ℕ) → (92 == c) ≡ false → is_one_of (47 ∷ escapable) c ≡ false
    → is_one_of (47 ∷ 92 ∷ []) c ≡ false
clean_plain c e f = let g : ((47 == c) ≡ false) × (is_one_of escapable c ≡ false) =
    or_false (47 == c) (is_one_of escapable c) f in rw (e, g.0) refl

put_special : (d : ℕ) (s : List ℕ) (r : List ℕ × List ℕ) → is_one_of escapable d ≡ true → Run s r
    → Run (92 ∷ d ∷ s) (put d r)
put_special d s r e h = (
  ap (λ z. 92 ∷ d ∷ z) h.0 ∙ ap (λ z. z ++ r.1) (sym (spelled-special d r.0 e)),
  rw (clean_special d e) h.1,
  h.2,
)

put_plain : (c : ℕ) (s : List ℕ) (r : List ℕ × List ℕ) → (92 == c) ≡ false
    → is_one_of (47 ∷ escapable) c ≡ false → Run s r → Run (c ∷ s) (put c r)
put_plain c s r e f h = (
  ap (λ z. c ∷ z) h.0
      ∙ ap (λ z. z ++ r.1) (sym (spelled-plain c r.0 (or_false (47 == c) (is_one_of escapable c) f).1)),
  rw (clean_plain c e f) h.1,
  h.2,
)

run_one : (c : ℕ) → Run (c ∷ []) (literal_run (c ∷ []))
run_one c = elim (is_one_of (92 ∷ 47 ∷ escapable) c) as (λ b. is_one_of (92 ∷ 47 ∷ escapable) c ≡ b
    → Run (c ∷ []) (if b then ([], c ∷ []) else (c ∷ [], []))) [
      | true ↦ λ e. (refl, refl, e)
      | false ↦ λ e. (let g : ((92 == c) ≡ false) × (is_one_of (47 ∷ escapable) c ≡ false) =
          or_false (92 == c) (is_one_of (47 ∷ escapable) c) e in
          put_plain c [] ([], []) g.0 g.1 (refl, refl, tt))
    ] refl

pub run_sound : (p : List ℕ) → Run p (literal_run p)
run_sound [] = (refl, refl, tt)
run_sound (c ∷ []) = run_one c
run_sound (c ∷ d ∷ s) =
    elim (92 == c) as (λ b. (92 == c) ≡ b → Run (c ∷ d ∷ s)
    (if b then (if is_one_of escapable d then put d (literal_run s) else ([], c ∷ d ∷ s))
    else if is_one_of (47 ∷ escapable) c then ([], c ∷ d ∷ s) else put c (literal_run (d ∷ s)))) [
      | true ↦ λ e. elim (is_one_of escapable d) as (λ b. is_one_of escapable d ≡ b
          → Run (c ∷ d ∷ s) (if b then put d (literal_run s) else ([], c ∷ d ∷ s))) [
            | true ↦ λ f. subst (λ z. Run (z ∷ d ∷ s) (put d (literal_run s))) (eqb-true 92 c e)
                (put_special d s (literal_run s) f (run_sound s))
            | false ↦ λ f. (refl, refl, ap (λ b. b || is_one_of (47 ∷ escapable) c) e)
          ] refl
      | false ↦ λ e. elim (is_one_of (47 ∷ escapable) c) as (λ b. is_one_of (47 ∷ escapable) c ≡ b
          → Run (c ∷ d ∷ s) (if b then ([], c ∷ d ∷ s) else put c (literal_run (d ∷ s)))) [
            | true ↦ λ f. (refl, refl, ap (λ b. b || is_one_of (47 ∷ escapable) c) e ∙ f)
            | false ↦ λ f. put_plain c (d ∷ s) (literal_run (d ∷ s)) e f (run_sound (d ∷ s))
          ] refl
    ] refl

-- ---- a literal's run is the only one
ends_stop : (q : List ℕ) → NoLiteralFollows q → literal_run q ≡ ([], q)
ends_stop [] h = refl
ends_stop (c ∷ []) h = let f : (92 == c) || is_one_of (47 ∷ escapable) c ≡ true =
    either (92 == c) (is_one_of (47 ∷ escapable) c) h in
    ap (λ b. if b then ([], c ∷ []) else (c ∷ [], [])) f
  where
    either : (a b : Bool) → b ≡ true → (a || b) ≡ true
    either true b e = refl
    either false b e = e
ends_stop (c ∷ d ∷ s) h =
    let e : (92 == c) ≡ false = outside (47 ∷ escapable) 92 c refl h in
    ap (λ b. if b then (if is_one_of escapable d then put d (literal_run s) else ([], c ∷ d ∷ s))
    else if is_one_of (47 ∷ escapable) c then ([], c ∷ d ∷ s) else put c (literal_run (d ∷ s))) e
    ∙ ap (λ b. if b then ([], c ∷ d ∷ s) else put c (literal_run (d ∷ s))) h

run_special : (d : ℕ) (s : List ℕ) → is_one_of escapable d ≡ true
    → literal_run (92 ∷ d ∷ s) ≡ put d (literal_run s)
run_special d s e = ap (λ b. if b then put d (literal_run s) else ([], 92 ∷ d ∷ s)) e

run_plain : (c : ℕ) (s : List ℕ) → (92 == c) ≡ false → is_one_of (47 ∷ escapable) c ≡ false
    → literal_run (c ∷ s) ≡ put c (literal_run s)
run_plain c [] e f = let g : (92 == c) || is_one_of (47 ∷ escapable) c ≡ false = rw e f in
    ap (λ b. if b then ([], c ∷ []) else (c ∷ [], [])) g
run_plain c (d ∷ s) e f =
    ap (λ b. if b then (if is_one_of escapable d then put d (literal_run s) else ([], c ∷ d ∷ s))
    else if is_one_of (47 ∷ escapable) c then ([], c ∷ d ∷ s) else put c (literal_run (d ∷ s))) e
    ∙ ap (λ b. if b then ([], c ∷ d ∷ s) else put c (literal_run (d ∷ s))) f

pub run_complete : (t q : List ℕ) → is_unclean t ≡ false → NoLiteralFollows q
    → literal_run (all_spelled escapable t ++ q) ≡ (t, q)
run_complete [] q clean stop = ends_stop q stop
run_complete (c ∷ t) q clean stop =
    let h : (is_one_of (47 ∷ 92 ∷ []) c ≡ false) × (is_unclean t ≡ false) =
    or_false (is_one_of (47 ∷ 92 ∷ []) c) (is_unclean t) clean in
    let k : ((47 == c) ≡ false) × (is_one_of (92 ∷ []) c ≡ false) =
    or_false (47 == c) (is_one_of (92 ∷ []) c) h.0 in
    let m : (92 == c) ≡ false = (or_false (92 == c) false k.1).0 in
    let r : literal_run (all_spelled escapable t ++ q) ≡ (t, q) = run_complete t q h.1 stop in
    elim (is_one_of escapable c) as (λ b. is_one_of escapable c ≡ b
    → literal_run (((if b then 92 ∷ c ∷ [] else c ∷ []) ++ all_spelled escapable t) ++ q) ≡ (c ∷ t, q)) [
      | true ↦ λ e. run_special c (all_spelled escapable t ++ q) e ∙ ap (put c) r
      | false ↦ λ e. run_plain c (all_spelled escapable t ++ q) m (rw (k.0, e) refl) ∙ ap (put c) r
    ] refl

-- in a glob of these surroundings
module _ (around : Around) where
  -- a leaf that is read is one of the grammar
  abbrev pub Good : Bool → Place → Option (Leaf × Place) → Type 0
  Good first p None = Unit {0}
  Good first p (Some r) = ReadsLeaf around first r.0 p r.1

  -- ---- no `**`
  not_star : (b : Bool) (c : ℕ) (s : List ℕ) → (42 == c) ≡ false → after_tree around (at b (c ∷ s)) ≡ None
  not_star b c s e = ap (λ z. star_after around b (if z then Some s else None)) e

  one_star : (b : Bool) (s : List ℕ) → starts_with_one_of (codes "*$") s ≡ false
      → after_tree around (at b (42 ∷ s)) ≡ None
  one_star b [] e = refl
  one_star b (c ∷ s) e = ap (λ z. after_star around b (if z then Some s else None))
      (or_false (42 == c) (is_one_of (36 ∷ []) c) e).0

  -- ---- a token that was read is one of the grammar
  good_literal : (first b : Bool) (p t q : List ℕ) → Run p (t, q)
      → Good first (at b p) (with_flag b (literal_leaf b (t, q)))
  good_literal first b p [] q h = tt
  good_literal first b p (c ∷ t) q h =
      elim (starts_with_one_of (92 ∷ []) q) as (λ z. starts_with_one_of (92 ∷ []) q ≡ z
      → Good first (at b p) (with_flag b (if z then None else Some (literal b (c ∷ t), q)))) [
        | true ↦ λ e. tt
        | false ↦ λ e. (refl, ((λ z. cons_nil c t z), h.1), (h.0, refl), stop q h.2 e)
      ] refl
    where
      cons_nil : (c : ℕ) (t : List ℕ) → c ∷ t ≡ [] → ⊥
      cons_nil c t z = cc

      stop : (q : List ℕ) → Stops q → starts_with_one_of (92 ∷ []) q ≡ false → NoLiteralFollows q
      stop [] h e = tt
      stop (d ∷ q) h e = let g : (92 == d) ≡ false = (or_false (92 == d) false e).0 in
          sym (ap (λ z. z || is_one_of (47 ∷ escapable) d) g) ∙ h

  good_slash : (first b : Bool) (s : List ℕ)
      → Good first (at b (47 ∷ s)) (Some (boundary_leaf (at b s) (after_tree around (flags_end (at b s)))))
  good_slash first b s = let p : Place = flags_end (at b s) in
      elim (after_tree around p) as (λ o. after_tree around p ≡ o → TreeIf around p o
      → Good first (at b (47 ∷ s)) (Some (boundary_leaf (at b s) o))) [
        | None ↦ λ e g. ((refl, refl), λ r f. none_some r (sym e ∙ follows_complete around (at b s) r f))
        | Some q ↦ λ e g. (at b s, (refl, refl), follows_sound around (at b s) q g)
      ] refl (tree_sound around p)

  -- a choice by one character
  by_char : (first b : Bool) (k c : ℕ) (s : List ℕ) (x y : Option (Leaf × Place))
      → Good first (at b (k ∷ s)) x → Good first (at b (c ∷ s)) y →
      Good first (at b (c ∷ s)) (if k == c then x else y)
  by_char first b k c s x y f g =
      elim (k == c) as (λ z. (k == c) ≡ z → Good first (at b (c ∷ s)) (if z then x else y)) [
        | true ↦ λ e. subst (λ z. Good first (at b (z ∷ s)) x) (eqb-true k c e) f
        | false ↦ λ e. g
      ] refl

  good_star : (first b : Bool) (s : List ℕ) → Good first (at b (42 ∷ s)) (zero_or_more_leaf Eager (at b s))
  good_star first b s = let p : Place = at b s in
      elim (starts_with_one_of (codes "*$") (flags_end p).rest)
      as (λ z. starts_with_one_of (codes "*$") (flags_end p).rest ≡ z
      → Good first (at b (42 ∷ s)) (if z then None else Some (zero_or_more Eager, p))) [
        | true ↦ λ e. tt
        | false ↦ λ e. ((refl, refl), no_wildcard_sound p e)
      ] refl

  good_dollar : (first b : Bool) (s : List ℕ) → Good first (at b (36 ∷ s)) (zero_or_more_leaf Lazy (at b s))
  good_dollar first b s = let p : Place = at b s in
      elim (starts_with_one_of (codes "*$") (flags_end p).rest)
      as (λ z. starts_with_one_of (codes "*$") (flags_end p).rest ≡ z
      → Good first (at b (36 ∷ s)) (if z then None else Some (zero_or_more Lazy, p))) [
        | true ↦ λ e. tt
        | false ↦ λ e. ((refl, refl), no_wildcard_sound p e)
      ] refl

  -- the text of a class, as its bracket, its mark and the rest
  class_opened : (negated : Bool) (xs : List Archetype) (q : List ℕ)
      → class_text negated xs ++ q ≡ (if negated then 91 ∷ 33 ∷ closing xs q else 91 ∷ closing xs q)
  class_opened true xs q = ap (λ z. 91 ∷ 33 ∷ z) (append_assoc (archetypes_text xs) (codes "]") q)
  class_opened false xs q = ap (λ z. 91 ∷ z) (append_assoc (archetypes_text xs) (codes "]") q)

  good_class_leaf : (first b negated : Bool) (s : List ℕ) (p : List ℕ) (o : Option (List Archetype × List ℕ))
      → GoodRun s o →
      ((xs : List Archetype) (q : List ℕ) → xs ≢ [] → s ≡ closing xs q → (p ≡ class_text negated xs ++ q)
      × (negated ≡ false → starts_with_one_of (codes "!") (archetypes_text xs) ≡ false)) →
      Good first (at b p) (with_flag b (class_leaf negated o))
  good_class_leaf first b negated s p None g h = tt
  good_class_leaf first b negated s p (Some ([], q)) g h = tt
  good_class_leaf first b negated s p (Some (a ∷ xs, q)) g h =
      let some : a ∷ xs ≢ [] = cons_nil a xs in let k : (p ≡ class_text negated (a ∷ xs) ++ q)
      × (negated ≡ false → starts_with_one_of (codes "!") (archetypes_text (a ∷ xs)) ≡ false) =
      h (a ∷ xs) q some g.0 in
      (some, g.1, (k.0, refl), k.1)
    where
      cons_nil : (a : Archetype) (xs : List Archetype) → a ∷ xs ≡ [] → ⊥
      cons_nil a xs z = cc

  no_mark : (xs : List Archetype) (c : ℕ) (s q : List ℕ) → (33 == c) ≡ false → c ∷ s ≡ closing xs q → xs ≢ []
      → starts_with_one_of (codes "!") (archetypes_text xs) ≡ false
  no_mark xs c s q e h some =
      go (archetypes_text xs) (ap (starts_with_one_of (codes "!")) (sym h) ∙ ap (λ b. b || false) e)
    where
      go : (t : List ℕ) → starts_with_one_of (codes "!") (t ++ 93 ∷ q) ≡ false
          → starts_with_one_of (codes "!") t ≡ false
      go [] e = refl
      go (d ∷ t) e = e

  good_class : (first b : Bool) (s : List ℕ) → Good first (at b (91 ∷ s)) (with_flag b (read_class s))
  good_class first b [] = tt
  good_class first b (c ∷ s) = elim (33 == c)
      as (λ z. (33 == c) ≡ z → Good first (at b (91 ∷ c ∷ s)) (with_flag b (if z then class_leaf true
      (class_run (length s) s) else class_leaf false (class_run (length (c ∷ s)) (c ∷ s))))) [
        | true ↦ λ e. good_class_leaf first b true s (91 ∷ c ∷ s) (class_run (length s) s)
            (class_run_sound (length s) s)
            (λ xs q some h. (
              ap (λ z. 91 ∷ z ∷ s) (sym (eqb-true 33 c e)) ∙ ap (λ z. 91 ∷ 33 ∷ z) h
                  ∙ sym (class_opened true xs q),
              λ f. absurd (true≢false f),
            ))
        | false ↦ λ e. good_class_leaf first b false (c ∷ s) (91 ∷ c ∷ s) (class_run (length (c ∷ s)) (c ∷ s))
            (class_run_sound (length (c ∷ s)) (c ∷ s))
            (λ xs q some h.
            (ap (λ z. 91 ∷ z) h ∙ sym (class_opened false xs q), λ f. no_mark xs c s q e h some))
      ] refl

  good_inner : (first b : Bool) (p : List ℕ) → Good first (at b p) (inner_leaf around b p)
  good_inner first b [] = tt
  good_inner first b (c ∷ s) =
      by_char first b 47 c s _ _ (good_slash first b s)
      (by_char first b 63 c s _ _ (let e : Past (codes "?") (at b (63 ∷ s)) (at b s) = (refl, refl) in e)
      (by_char first b 42 c s _ _ (good_star first b s)
      (by_char first b 36 c s _ _ (good_dollar first b s)
      (by_char first b 91 c s _ _ (good_class first b s)
      (good_literal first b (c ∷ s) (literal_run (c ∷ s)).0 (literal_run (c ∷ s)).1 (run_sound (c ∷ s)))))))

  pub leaf_sound : (first : Bool) (p : Place) → Good first p (read_leaf around first p)
  leaf_sound false p = good_inner false p.insensitive p.rest
  leaf_sound true p =
      elim (after_tree around p) as (λ o. TreeIf around p o → Good true p (first_leaf around p o)) [
        | None ↦ λ g. good_inner true p.insensitive p.rest
        | Some q ↦ λ g. (refl, g.0, g.1, g.2)
      ] (tree_sound around p)

  -- ---- and each of the grammar's tokens is read
  no_tree : (p : Place) → ((r : Place) → TreeFollows around p r → ⊥) → after_tree around (flags_end p) ≡ None
  no_tree p h = elim (after_tree around (flags_end p)) as (λ o. TreeIf around (flags_end p) o
      → o ≡ None) [ None ↦ λ g. refl | Some q ↦ λ g. absurd (h q (follows_sound around p q g)) ]
      (tree_sound around (flags_end p))

  inner_is : (first : Bool) (p : Place) → after_tree around p ≡ None
      → read_leaf around first p ≡ inner_leaf around p.insensitive p.rest
  inner_is false p e = refl
  inner_is true p e = ap (first_leaf around p) e

  other_char : (b : Bool) (c : ℕ) (s : List ℕ) → (47 == c) ≡ false → (63 == c) ≡ false → (42 == c) ≡ false
      → (36 == c) ≡ false → (91 == c) ≡ false →
      inner_leaf around b (c ∷ s) ≡ with_flag b (literal_leaf b (literal_run (c ∷ s)))
  other_char b c s e f g h k = rw (e, f, g, h, k) refl

  -- no leaf begins with a character that is neither plain nor a leaf's own
  pub no_leaf : (first b : Bool) (c : ℕ) (s : List ℕ) → is_one_of (47 ∷ escapable) c ≡ true
      → (47 == c) ≡ false → (63 == c) ≡ false → (42 == c) ≡ false → (36 == c) ≡ false → (91 == c) ≡ false →
      read_leaf around first (at b (c ∷ s)) ≡ None
  no_leaf first b c s stop e f g h k =
      inner_is first (at b (c ∷ s)) (not_star b c s g) ∙ other_char b c s e f g h k
      ∙ ap (λ r. with_flag b (literal_leaf b r)) (ends_stop (c ∷ s) stop)

  -- what a literal's reading depends on
  abbrev as_literal : Bool → List ℕ → Option (Leaf × Place)
  as_literal b p = with_flag b (literal_leaf b (literal_run p))

  literal_head : (first b : Bool) (c : ℕ) (t q : List ℕ) → is_unclean (c ∷ t) ≡ false →
      read_leaf around first (at b (all_spelled escapable (c ∷ t) ++ q))
      ≡ as_literal b (all_spelled escapable (c ∷ t) ++ q)
  literal_head first b c t q clean =
      let h : (is_one_of (47 ∷ 92 ∷ []) c ≡ false) × (is_unclean t ≡ false) =
      or_false (is_one_of (47 ∷ 92 ∷ []) c) (is_unclean t) clean in
      let r : List ℕ = all_spelled escapable t ++ q in
      elim (is_one_of escapable c) as (λ z. is_one_of escapable c ≡ z
      → read_leaf around first (at b ((as_spelled c z ++ all_spelled escapable t) ++ q))
      ≡ as_literal b ((as_spelled c z ++ all_spelled escapable t) ++ q)) [
        | true ↦ λ e. inner_is first (at b (92 ∷ c ∷ r)) (not_star b 92 (c ∷ r) refl)
            ∙ other_char b 92 (c ∷ r) refl refl refl refl refl
        | false ↦ λ e. inner_is first (at b (c ∷ r)) (not_star b c r (not_member escapable 42 c refl e))
            ∙ other_char b c r (not_member (47 ∷ 92 ∷ []) 47 c refl h.0) (not_member escapable 63 c refl e)
            (not_member escapable 42 c refl e) (not_member escapable 36 c refl e)
            (not_member escapable 91 c refl e)
      ] refl

  no_backslash : (q : List ℕ) → NoLiteralFollows q → starts_with_one_of (92 ∷ []) q ≡ false
  no_backslash [] h = refl
  no_backslash (d ∷ q) h = rw (outside (47 ∷ escapable) 92 d refl h) refl

  class_leaf_some : (negated : Bool) (xs : List Archetype) (q : List ℕ) → xs ≢ []
      → class_leaf negated (Some (xs, q)) ≡ Some (class negated xs, q)
  class_leaf_some negated [] q h = absurd (h refl)
  class_leaf_some negated (a ∷ xs) q h = refl

  -- a class that isn't negated doesn't begin with the mark
  unmarked : (xs : List Archetype) (q : List ℕ) → AllPlain xs → xs ≢ []
      → starts_with_one_of (codes "!") (archetypes_text xs) ≡ false
      → read_class (closing xs q) ≡ class_leaf false (class_run (length (closing xs q)) (closing xs q))
  unmarked xs q plain some e = go (closing xs q) (mark (archetypes_text xs) e)
    where
      mark : (t : List ℕ) → starts_with_one_of (codes "!") t ≡ false
          → starts_with_one_of (codes "!") (t ++ 93 ∷ q) ≡ false
      mark [] e = refl
      mark (d ∷ t) e = e

      go : (t : List ℕ) → starts_with_one_of (codes "!") t ≡ false
          → read_class t ≡ class_leaf false (class_run (length t) t)
      go [] e = refl
      go (c ∷ s) e = ap (λ b. if b then class_leaf true (class_run (length s) s)
          else class_leaf false (class_run (length (c ∷ s)) (c ∷ s))) (or_false (33 == c) false e).0

  class_complete : (first b negated : Bool) (xs : List Archetype) (q : List ℕ) → xs ≢ [] → AllPlain xs
      → (negated ≡ false → starts_with_one_of (codes "!") (archetypes_text xs) ≡ false) →
      read_leaf around first (at b (if negated then 91 ∷ 33 ∷ closing xs q else 91 ∷ closing xs q))
      ≡ Some (class negated xs, at b q)
  class_complete first b true xs q some plain mark =
      inner_is first (at b (91 ∷ 33 ∷ closing xs q)) (not_star b 91 (33 ∷ closing xs q) refl)
      ∙ ap (λ o. with_flag b (class_leaf true o)) (class_run_complete (length (closing xs q)) xs q plain
      (omega arith)) ∙ ap (with_flag b) (class_leaf_some true xs q some)
  class_complete first b false xs q some plain mark =
      inner_is first (at b (91 ∷ closing xs q)) (not_star b 91 (closing xs q) refl)
      ∙ ap (with_flag b) (unmarked xs q plain some (mark refl))
      ∙ ap (λ o. with_flag b (class_leaf false o)) (class_run_complete (length (closing xs q)) xs q plain
      (omega arith)) ∙ ap (with_flag b) (class_leaf_some false xs q some)

  literal_complete : (first b : Bool) (c : ℕ) (t q : List ℕ) → is_unclean (c ∷ t) ≡ false
      → NoLiteralFollows q →
      read_leaf around first (at b (all_spelled escapable (c ∷ t) ++ q)) ≡ Some (literal b (c ∷ t), at b q)
  literal_complete first b c t q clean stop =
      literal_head first b c t q clean
      ∙ ap (λ r. with_flag b (literal_leaf b r)) (run_complete (c ∷ t) q clean stop)
      ∙ ap (λ z. with_flag b (if z then None else Some (literal b (c ∷ t), q))) (no_backslash q stop)

  zero_or_more_complete : (evaluation : Evaluation) (q : Place) → NoWildcardFollows q
      → zero_or_more_leaf evaluation q ≡ Some (zero_or_more evaluation, q)
  zero_or_more_complete evaluation q h =
      ap (λ z. if z then None else Some (zero_or_more evaluation, q)) (no_wildcard_complete q h)

  -- a leaf that is read from the text of a place, up to the same flag
  from_text : (first : Bool) (l : Leaf) (cs : List ℕ) (p q : Place) → Past cs p q
      → read_leaf around first (at p.insensitive (cs ++ q.rest)) ≡ Some (l, at p.insensitive q.rest) →
      read_leaf around first p ≡ Some (l, q)
  from_text first l cs p q h e = ap (λ t. read_leaf around first (at p.insensitive t)) h.0 ∙ e
      ∙ ap (λ b. Some (l, at b q.rest)) (sym h.1)

  -- the place that the same flag leads to
  past_is : (cs : List ℕ) (p q : Place) → Past cs p q → q ≡ at p.insensitive q.rest
  past_is cs p q h = ap (λ b. at b q.rest) h.1

  pub leaf_complete : (first : Bool) (l : Leaf) (p q : Place) → ReadsLeaf around first l p q
      → read_leaf around first p ≡ Some (l, q)
  leaf_complete first (literal b []) p q h = absurd (h.1.0 refl)
  leaf_complete first (literal b (c ∷ t)) p q h =
      from_text first (literal b (c ∷ t)) (all_spelled escapable (c ∷ t)) p q h.2
      (literal_complete first p.insensitive c t q.rest h.1.1 h.3
      ∙ ap (λ z. Some (literal z (c ∷ t), at p.insensitive q.rest)) (sym h.0))
  leaf_complete first (class negated xs) p q h =
      from_text first (class negated xs) (class_text negated xs) p q h.2
      (ap (λ t. read_leaf around first (at p.insensitive t)) (class_opened negated xs q.rest)
      ∙ class_complete first p.insensitive negated xs q.rest h.0 h.1 h.3)
  leaf_complete first separator p q h =
      let b : Bool = p.insensitive in
      from_text first separator (codes "/") p q h.0
      (inner_is first (at b (47 ∷ q.rest)) (not_star b 47 q.rest refl)
      ∙ ap (λ o. Some (boundary_leaf (at b q.rest) o)) (no_tree (at b q.rest)
      (λ r k. h.1 r (subst (λ z. TreeFollows around z r) (sym (past_is (codes "/") p q h.0)) k))))
  leaf_complete first one p q h = from_text first one (codes "?") p q h
      (inner_is first (at p.insensitive (63 ∷ q.rest)) (not_star p.insensitive 63 q.rest refl))
  leaf_complete first (zero_or_more Eager) p q h =
      let b : Bool = p.insensitive in
      from_text first (zero_or_more Eager) (codes "*") p q h.0
      (inner_is first (at b (42 ∷ q.rest)) (one_star b q.rest (h.1 q no_flags))
      ∙ zero_or_more_complete Eager (at b q.rest) (subst NoWildcardFollows (past_is (codes "*") p q h.0) h.1))
  leaf_complete first (zero_or_more Lazy) p q h =
      let b : Bool = p.insensitive in
      from_text first (zero_or_more Lazy) (codes "$") p q h.0
      (inner_is first (at b (36 ∷ q.rest)) (not_star b 36 q.rest refl)
      ∙ zero_or_more_complete Lazy (at b q.rest) (subst NoWildcardFollows (past_is (codes "$") p q h.0) h.1))
  leaf_complete first (tree true) p q h =
      let b : Bool = p.insensitive in
      ap (λ t. read_leaf around first (at b t)) h.1.0
      ∙ inner_is first (at b (47 ∷ h.0.rest)) (not_star b 47 h.0.rest refl)
      ∙ ap (λ z. Some (boundary_leaf z (after_tree around (flags_end z))))
      (sym (past_is (codes "/") p h.0 h.1))
      ∙ ap (λ o. Some (boundary_leaf h.0 o)) (follows_complete around h.0 q h.2)
  leaf_complete first (tree false) p q h =
      ap (λ b. read_leaf around b p) h.0 ∙ ap (first_leaf around p) (tree_complete around p q (h.1, h.2, h.3))

  spelled_some : (t : List ℕ) → (t ≢ []) → 0 < length (all_spelled escapable t)
  spelled_some [] h = absurd (h refl)
  spelled_some (c ∷ t) h = elim (is_one_of escapable c) as (λ b. 0
      < length (as_spelled c b ++ all_spelled escapable t)) [ true ↦ omega arith | false ↦ omega arith ]

  class_some : (negated : Bool) (xs : List Archetype) → 0 < length (class_text negated xs)
  class_some true xs = omega arith
  class_some false xs = omega arith

  closes_takes : (n q : Place) → TreeCloses around n q → (x : List ℕ) × (n.rest ≡ x ++ q.rest)
  closes_takes n q (inl h) = let k : (x : List ℕ) × (n.rest ≡ x ++ h.0.rest) = flags_text n h.0 h.1 in
      (k.0 ++ codes "/", k.1 ∙ ap (λ z. k.0 ++ z) h.2.0 ∙ sym (append_assoc k.0 (codes "/") q.rest))
  closes_takes n q (inr h) = ([], ap (λ z. z.rest) h.0)

  tree_takes : (p q : Place) → TreeFrom around p q → HasProperSuffix p.rest q.rest
  tree_takes p q h = let k : (x : List ℕ) × (h.0.rest ≡ x ++ q.rest) = closes_takes h.0 q h.2 in
      (codes "**" ++ k.0, h.1.0 ∙ ap (λ z. codes "**" ++ z) k.1, omega arith)

  follows_takes : (p q : Place) → TreeFollows around p q → (x : List ℕ) × (p.rest ≡ x ++ q.rest)
  follows_takes p q h =
      let f : (x : List ℕ) × (p.rest ≡ x ++ h.0.rest) = flags_text p h.0 h.2 in
      let t : HasProperSuffix h.0.rest q.rest = tree_takes h.0 q (h.1, h.3, h.4) in
      (f.0 ++ t.0, f.1 ∙ ap (λ z. f.0 ++ z) t.1 ∙ sym (append_assoc f.0 t.0 q.rest))

  takes : (first : Bool) (l : Leaf) (p q : Place) → ReadsLeaf around first l p q
      → HasProperSuffix p.rest q.rest
  takes first (literal b t) p q h = (all_spelled escapable t, h.2.0, spelled_some t h.1.0)
  takes first (class negated xs) p q h = (class_text negated xs, h.2.0, class_some negated xs)
  takes first separator p q h = (codes "/", h.0.0, omega arith)
  takes first one p q h = (codes "?", h.0, omega arith)
  takes first (zero_or_more Eager) p q h = (codes "*", h.0.0, omega arith)
  takes first (zero_or_more Lazy) p q h = (codes "$", h.0.0, omega arith)
  takes first (tree true) p q h = let k : (x : List ℕ) × (h.0.rest ≡ x ++ q.rest) = follows_takes h.0 q h.2 in
      (47 ∷ k.0, h.1.0 ∙ ap (λ z. 47 ∷ z) k.1, omega arith)
  takes first (tree false) p q h = tree_takes p q (h.1, h.2, h.3)

  pub leaf_takes : (first : Bool) (l : Leaf) (p q : Place) → read_leaf around first p ≡ Some (l, q)
      → HasProperSuffix p.rest q.rest
  leaf_takes first l p q e = takes first l p q (subst (Good first p) e (leaf_sound first p))

  -- ---- no leaf begins as a flag group does
  literal_no_flag : (t q : List ℕ) → t ≢ []
      → starts_with_one_of (40 ∷ []) (all_spelled escapable t ++ q) ≡ false
  literal_no_flag [] q h = absurd (h refl)
  literal_no_flag (c ∷ t) q h = elim (is_one_of escapable c) as (λ z. is_one_of escapable c ≡ z
      → starts_with_one_of (40 ∷ []) ((as_spelled c z ++ all_spelled escapable t) ++ q) ≡ false) [
        | true ↦ λ e. refl
        | false ↦ λ e. ap (λ z. z || false) (not_member escapable 40 c refl e)
      ] refl

  class_no_flag : (negated : Bool) (xs : List Archetype) (q : List ℕ)
      → starts_with_one_of (40 ∷ []) (class_text negated xs ++ q) ≡ false
  class_no_flag true xs q = refl
  class_no_flag false xs q = refl

  pub leaf_no_flag : (first : Bool) (l : Leaf) (p q : Place) → ReadsLeaf around first l p q
      → starts_with_one_of (40 ∷ []) p.rest ≡ false
  leaf_no_flag first (literal b t) p q h = ap (starts_with_one_of (40 ∷ [])) h.2.0
      ∙ literal_no_flag t q.rest h.1.0
  leaf_no_flag first (class negated xs) p q h = ap (starts_with_one_of (40 ∷ [])) h.2.0
      ∙ class_no_flag negated xs q.rest
  leaf_no_flag first separator p q h = ap (starts_with_one_of (40 ∷ [])) h.0.0
  leaf_no_flag first one p q h = ap (starts_with_one_of (40 ∷ [])) h.0
  leaf_no_flag first (zero_or_more Eager) p q h = ap (starts_with_one_of (40 ∷ [])) h.0.0
  leaf_no_flag first (zero_or_more Lazy) p q h = ap (starts_with_one_of (40 ∷ [])) h.0.0
  leaf_no_flag first (tree true) p q h = ap (starts_with_one_of (40 ∷ [])) h.1.0
  leaf_no_flag first (tree false) p q h = ap (starts_with_one_of (40 ∷ [])) h.2.0
