-- Flag groups.
use Rattle.std.proofs.Common.{true≢false, ◌≡◌, ℕ, zero, suc, ◌<◌, ◌≤◌, ◌⊎◌, Bool, true, false, List, [], ◌∷◌}
use Rattle.std.proofs.Common.{◌++◌, length, Option, Some, None, if◌then◌else◌, ◌==◌, codes, refl, sym, ◌∙◌}
use Rattle.std.proofs.Common.{ap, subst, inl, inr, arith, length-append, append_assoc, eqb-true}
use Rattle.wax_token.specs.Reads.{Place, Past, Flags, no_flags, group, toggles_text, last_toggle}
use Rattle.wax_token.specs.Reads.{starts_with_one_of}
use Rattle.wax_parse.specs.inner.Parser.{at, strip, toggle_off, toggle_step, group_end, dash_end}
use Rattle.wax_parse.specs.inner.Parser.{first_toggle, after_question, after_parenthesis, group_step}
use Rattle.wax_parse.specs.inner.Parser.{flags_on, flags_run, flags_end}

-- ---- the groups that are read are flag groups
abbrev Toggles : Bool → List ℕ → Place → Type 0
Toggles b p q = (bs : List Bool) × (p ≡ toggles_text bs ++ 41 ∷ q.rest) × (q.insensitive ≡ last_toggle b bs)

abbrev ManyToggles : Bool → List ℕ → Option Place → Type 0
ManyToggles b p None = Unit {0}
ManyToggles b p (Some q) = Toggles b p q

more_on : (b : Bool) (s : List ℕ) (o : Option Place) → ManyToggles true s o → ManyToggles b (105 ∷ s) o
more_on b s None h = tt
more_on b s (Some q) h = (true ∷ h.0, ap (λ z. 105 ∷ z) h.1, h.2)

more_off : (b : Bool) (s : List ℕ) (o : Option Place) → ManyToggles false s o → ManyToggles b (45 ∷ 105 ∷ s) o
more_off b s None h = tt
more_off b s (Some q) h = (false ∷ h.0, ap (λ z. 45 ∷ 105 ∷ z) h.1, h.2)

mutual
  toggles_sound : (b : Bool) (p : List ℕ) → ManyToggles b p (group_end b p)
  toggles_sound b [] = tt
  toggles_sound b (c ∷ s) = elim (41 == c) as (λ z. (41 == c) ≡ z → ManyToggles b (c ∷ s) (if z
      then Some (at b s) else if 105 == c then group_end true s else if 45 == c then dash_end s else None)) [
        | true ↦ λ e. ([], ap (λ z. z ∷ s) (sym (eqb-true 41 c e)), refl)
        | false ↦ λ e. elim (105 == c) as (λ z. (105 == c) ≡ z
            → ManyToggles b (c ∷ s) (if z then group_end true s else if 45 == c then dash_end s else None)) [
              | true ↦ λ f. subst (λ z. ManyToggles b (z ∷ s) (group_end true s)) (eqb-true 105 c f)
                  (more_on b s (group_end true s) (toggles_sound true s))
              | false ↦ λ f. elim (45 == c)
                  as (λ z. (45 == c) ≡ z → ManyToggles b (c ∷ s) (if z then dash_end s else None)) [
                    | true ↦ λ g. subst (λ z. ManyToggles b (z ∷ s) (dash_end s))
                        (eqb-true 45 c g) (dash_sound b s)
                    | false ↦ λ g. tt
                  ] refl
            ] refl
      ] refl

  dash_sound : (b : Bool) (p : List ℕ) → ManyToggles b (45 ∷ p) (dash_end p)
  dash_sound b [] = tt
  dash_sound b (c ∷ s) = elim (105 == c)
      as (λ z. (105 == c) ≡ z → ManyToggles b (45 ∷ c ∷ s) (if z then group_end false s else None)) [
        | true ↦ λ e. subst (λ z. ManyToggles b (45 ∷ z ∷ s) (group_end false s)) (eqb-true 105 c e)
            (more_off b s (group_end false s) (toggles_sound false s))
        | false ↦ λ e. tt
      ] refl

toggles_complete : (b : Bool) (bs : List Bool) (s : List ℕ)
    → group_end b (toggles_text bs ++ 41 ∷ s) ≡ Some (at (last_toggle b bs) s)
toggles_complete b [] s = refl
toggles_complete b (true ∷ bs) s = toggles_complete true bs s
toggles_complete b (false ∷ bs) s = toggles_complete false bs s

-- a group
abbrev group_text : Bool → List Bool → List ℕ → List ℕ
group_text b bs s = 40 ∷ 63 ∷ (toggles_text (b ∷ bs) ++ 41 ∷ s)

step_complete : (b : Bool) (bs : List Bool) (s : List ℕ)
    → group_step (group_text b bs s) ≡ Some (at (last_toggle b bs) s)
step_complete true bs s = toggles_complete true bs s
step_complete false bs s = toggles_complete false bs s

abbrev IsGroup : List ℕ → Option Place → Type 0
IsGroup p None = Unit {0}
IsGroup p (Some q) = (b : Bool) × (bs : List Bool) × (p ≡ group_text b bs q.rest)
    × (q.insensitive ≡ last_toggle b bs)

first_sound : (s : List ℕ) → IsGroup (40 ∷ 63 ∷ s) (first_toggle (toggle_step s))
first_sound [] = tt
first_sound (c ∷ s) = elim (105 == c) as (λ z. (105 == c) ≡ z → IsGroup (40 ∷ 63 ∷ c ∷ s)
    (first_toggle (if z then Some (true, s) else if 45 == c then toggle_off (strip 105 s) else None))) [
      | true ↦ λ e. subst (λ z. IsGroup (40 ∷ 63 ∷ z ∷ s) (group_end true s)) (eqb-true 105 c e)
          (grouped true s (group_end true s) (toggles_sound true s))
      | false ↦ λ e. elim (45 == c) as (λ z. (45 == c) ≡ z
          → IsGroup (40 ∷ 63 ∷ c ∷ s) (first_toggle (if z then toggle_off (strip 105 s) else None))) [
            | true ↦ λ f. subst (λ z. IsGroup (40 ∷ 63 ∷ z ∷ s) (first_toggle (toggle_off (strip 105 s))))
                (eqb-true 45 c f) (dashed s)
            | false ↦ λ f. tt
          ] refl
    ] refl
  where
    grouped : (b : Bool) (s : List ℕ) (o : Option Place) → ManyToggles b s o
        → IsGroup (40 ∷ 63 ∷ (if b then 105 ∷ s else 45 ∷ 105 ∷ s)) o
    grouped b s None h = tt
    grouped true s (Some q) h = (true, h.0, ap (λ z. 40 ∷ 63 ∷ 105 ∷ z) h.1, h.2)
    grouped false s (Some q) h = (false, h.0, ap (λ z. 40 ∷ 63 ∷ 45 ∷ 105 ∷ z) h.1, h.2)

    dashed : (s : List ℕ) → IsGroup (40 ∷ 63 ∷ 45 ∷ s) (first_toggle (toggle_off (strip 105 s)))
    dashed [] = tt
    dashed (c ∷ s) = elim (105 == c) as (λ z. (105 == c) ≡ z
        → IsGroup (40 ∷ 63 ∷ 45 ∷ c ∷ s) (first_toggle (toggle_off (if z then Some s else None)))) [
          | true ↦ λ e. subst (λ z. IsGroup (40 ∷ 63 ∷ 45 ∷ z ∷ s) (group_end false s)) (eqb-true 105 c e)
              (grouped false s (group_end false s) (toggles_sound false s))
          | false ↦ λ e. tt
        ] refl

step_sound : (p : List ℕ) → IsGroup p (group_step p)
step_sound [] = tt
step_sound (c ∷ s) = elim (40 == c)
    as (λ z. (40 == c) ≡ z → IsGroup (c ∷ s) (after_parenthesis (if z then Some s else None))) [
      | true ↦
          λ e. subst (λ z. IsGroup (z ∷ s) (after_question (strip 63 s))) (eqb-true 40 c e) (questioned s)
      | false ↦ λ e. tt
    ] refl
  where
    questioned : (s : List ℕ) → IsGroup (40 ∷ s) (after_question (strip 63 s))
    questioned [] = tt
    questioned (c ∷ s) = elim (63 == c)
        as (λ z. (63 == c) ≡ z → IsGroup (40 ∷ c ∷ s) (after_question (if z then Some s else None))) [
          | true ↦ λ e. subst (λ z. IsGroup (40 ∷ z ∷ s) (first_toggle (toggle_step s)))
              (eqb-true 63 c e) (first_sound s)
          | false ↦ λ e. tt
        ] refl

-- a text from which a group leads to q
group_of : (p : List ℕ) (q : Place) → group_step p ≡ Some q → IsGroup p (Some q)
group_of p q e = subst (IsGroup p) e (step_sound p)

group_shorter : (p : List ℕ) (q : Place) → group_step p ≡ Some q → length q.rest < length p
group_shorter p q e = let g : IsGroup p (Some q) = group_of p q e in
    omega (arith, ap length g.2, length-append (toggles_text (g.0 ∷ g.1)) (41 ∷ q.rest))

-- ---- one more group
group_text_end : (b : Bool) (bs : List Bool) (s : List ℕ)
    → (codes "(?" ++ toggles_text (b ∷ bs) ++ codes ")") ++ s ≡ group_text b bs s
group_text_end b bs s = ap (λ z. 40 ∷ 63 ∷ z) (append_assoc (toggles_text (b ∷ bs)) (codes ")") s)

flags_step : (p q r : Place) → group_step p.rest ≡ Some q → Flags q r → Flags p r
flags_step p q r e h = let g : IsGroup p.rest (Some q) = group_of p.rest q e in
    group g.0 g.1 (at p.insensitive q.rest) (g.2 ∙ sym (group_text_end g.0 g.1 q.rest), refl)
    (subst (λ z. Flags (at z q.rest) r) g.3 h)

step_past : (p m : Place) (b : Bool) (bs : List Bool)
    → Past (codes "(?" ++ toggles_text (b ∷ bs) ++ codes ")") p m
    → group_step p.rest ≡ Some (at (last_toggle b bs) m.rest)
step_past p m b bs h = ap group_step (h.0 ∙ group_text_end b bs m.rest) ∙ step_complete b bs m.rest

-- ---- all groups
run_reached : (n : ℕ) (p : Place) → Flags p (flags_run n p)
run_reached zero p = no_flags
run_reached (suc n) p =
    elim (group_step p.rest) as (λ o. group_step p.rest ≡ o → Flags p (flags_on (flags_run n) p o)) [
      | None ↦ λ e. no_flags
      | Some q ↦ λ e. flags_step p q (flags_run n q) e (run_reached n q)
    ] refl

-- where no more group is allowed for, none is left
run_passes : (n : ℕ) (p q : Place) → length p.rest ≤ n → Flags p q → Flags q (flags_run n p)
run_passes n p q h no_flags = run_reached n p
run_passes zero p q h (group b bs m e f) =
    absurd (omega (arith, h, group_shorter p.rest (at (last_toggle b bs) m.rest) (step_past p m b bs e)))
run_passes (suc n) p q h (group b bs m e f) =
    let s : group_step p.rest ≡ Some (at (last_toggle b bs) m.rest) = step_past p m b bs e in
    subst (λ o. Flags q (flags_on (flags_run n) p o)) (sym s) (run_passes n (at (last_toggle b bs) m.rest) q
    (omega (arith, h, group_shorter p.rest (at (last_toggle b bs) m.rest) s)) f)

pub flags_reached : (p : Place) → Flags p (flags_end p)
flags_reached p = run_reached (length p.rest) p

-- a place that flag groups lead to is their end, or the next group begins there
flags_linear : (q r : Place) → Flags q r → (q ≡ r) ⊎ (starts_with_one_of (40 ∷ []) q.rest ≡ true)
flags_linear q r no_flags = inl refl
flags_linear q r (group b bs m e f) =
    inr (ap (starts_with_one_of (40 ∷ [])) (e.0 ∙ group_text_end b bs m.rest))

pub flags_cases : (p q : Place) → Flags p q → (q ≡ flags_end p) ⊎ (starts_with_one_of (40 ∷ []) q.rest ≡ true)
flags_cases p q h = flags_linear q (flags_end p) (run_passes (length p.rest) p q (omega arith) h)

pub flags_last : (p q : Place) → Flags p q → starts_with_one_of (40 ∷ []) q.rest ≡ false → q ≡ flags_end p
flags_last p q h e = elim (flags_cases p q h) [ inl f ↦ f | inr f ↦ absurd (true≢false (sym f ∙ e)) ]

-- ---- what flag groups take
pub flags_text : (p q : Place) → Flags p q → (x : List ℕ) × (p.rest ≡ x ++ q.rest)
flags_text p q no_flags = ([], refl)
flags_text p q (group b bs m e f) =
    let k : (x : List ℕ) × (m.rest ≡ x ++ q.rest) = flags_text (at (last_toggle b bs) m.rest) q f in
    let t : List ℕ = codes "(?" ++ toggles_text (b ∷ bs) ++ codes ")" in
    (t ++ k.0, e.0 ∙ ap (λ z. t ++ z) k.1 ∙ sym (append_assoc t k.0 q.rest))

-- ---- the loop
pub flags_start : (p : Place) → (n : ℕ) × (length p.rest ≤ n) × (flags_end p ≡ flags_run n p)
flags_start p = (length p.rest, omega arith, refl)

pub flags_more : (first p q : Place) (n : ℕ) → group_step p.rest ≡ Some q → length p.rest ≤ n
    → flags_end first ≡ flags_run n p →
    (m : ℕ) × (length q.rest ≤ m) × (flags_end first ≡ flags_run m q)
flags_more first p q zero e h w = absurd (omega (arith, h, group_shorter p.rest q e))
flags_more first p q (suc n) e h w =
    (n, omega (arith, h, group_shorter p.rest q e), w ∙ ap (flags_on (flags_run n) p) e)

pub flags_stop : (first p : Place) (n : ℕ) → group_step p.rest ≡ None → flags_end first ≡ flags_run n p
    → flags_end first ≡ p
flags_stop first p zero e w = w
flags_stop first p (suc n) e w = w ∙ ap (flags_on (flags_run n) p) e

pub group_smaller : (p : List ℕ) (b : Bool) (s : List ℕ) → group_step p ≡ Some (at b s) → length s < length p
group_smaller p b s e = group_shorter p (at b s) e
