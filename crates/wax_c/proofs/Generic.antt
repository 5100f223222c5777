-- Calls that follow two handles, by a function that is generic over what lies there.
use Rattle.std.proofs.Common.{◌≡◌, List, [], ◌∷◌, sym, subst, ℕ, ℤ, suc, zero, w64}
use Rattle.wax_c.proofs.{Arguments.{Exits, Rows, stored, values}, Exports.{Gives, Returned, Z, told}}
use Rattle.wax_c.proofs.{Held.Held, Lending.by_shr}
use Rattle.wax_c.proofs.Pairs.{Said, Taken, code, exported, follows, loans, promised, searching}
use base.{Fml.{Fml, GName, Lft, ftrue}, Fraction.full_share}
use base.Logic.{SProp, ent, sep, emp, via, emp∗, mono_l, mono_r, snd∗}
use contract.{BorrowLft.{◌⊑◌, ⊑_static}, Lifetimes.{Lfts, Shares, toks}, Monad.{fact, fact_i}}
use contract.Running.{Running, tables}
use mir.{Raw.raw as bare, Syntax.{Callee, Mutability}, Val.{Val, vint, vptr}}
use prog.{Model.Model, Wp.{Calls, Closed}}
use seplogic.Ra.Ura.{Ura}
use sound.WpLaws.{FmC}
use types.Kit.{‵, raw, ◌⊛◌, some, later, ◌$◌, ◌∵◌, !, qed, by, move, drop, use0, use1, split, join, pick}
use types.{Kit.{await, updating, now as at_once, show, done}, Logic.{Logic, sem}}
use denote.{Builtin.i32, Exit.no, Param.{arg, layout}, Param.Laws.{Laws, arg_laws}}
use denote.{RattleType.{RattleType, Denots, Valss}, Steps.nothing, Triple.Clauses.closing}
use denote.{Triple.Spec.triple_of, Triple.Statement.Triple, Triple.Table.framed}
use Rattle.std.proofs.alloc.Global.TheLaws as heap_laws

-- what lies at a handle, as the argument of a type parameter
abbrev pub type_argument : Held → RattleType
type_argument T = arg (bare (layout T.R)) no T.R

abbrev pub type_argument_laws : (T : Held) → bare (bare (layout T.R)) ≡ bare (layout T.R)
    → Laws (type_argument T)
type_argument_laws T plain_ty = arg_laws (bare (layout T.R)) no T.R T.laws plain_ty

-- ---- the type parameter's lifetime, the last one, is `'static`, whose token is there at any time
abbrev with_static : (n : ℕ) → Lfts n → Lfts (suc n)
with_static zero κs = ([], tt)
with_static (suc n) κs = (κs.0, with_static n κs.1)

abbrev with_share : (n : ℕ) → Shares n → Shares (suc n)
with_share zero qs = (full_share, tt)
with_share (suc n) qs = (qs.0, with_share n qs.1)

module _ {M : Type 1} {𝓤 : Ura M} (𝓛 : Logic 𝓤) where
  abbrev all_toks : (n : ℕ) → Lfts n → Shares n → SProp 𝓤
  all_toks n κs qs = toks 𝓛 (suc n) (with_static n κs) (with_share n qs)

  adds : (n : ℕ) (κs : Lfts n) (qs : Shares n) → ent 𝓤 (toks 𝓛 n κs qs) (all_toks n κs qs)
  adds zero κs qs = via 𝓤 (sep 𝓤 (emp 𝓤) (emp 𝓤)) (emp∗ 𝓤 (emp 𝓤))
      (mono_l 𝓤 (emp 𝓤) (𝓛.lfts.lft-nil full_share))
  adds (suc n) κs qs = mono_r 𝓤 (𝓛.A.lft κs.0 qs.0) (adds n κs.1 qs.1)

  removes : (n : ℕ) (κs : Lfts n) (qs : Shares n) → ent 𝓤 (all_toks n κs qs) (toks 𝓛 n κs qs)
  removes zero κs qs = snd∗ 𝓤 (𝓛.A.lft [] full_share) (emp 𝓤)
  removes (suc n) κs qs = mono_r 𝓤 (𝓛.A.lft κs.0 qs.0) (removes n κs.1 qs.1)

  abbrev outlives : Held → SProp 𝓤
  outlives T = fact 𝓤 ([] ⊑ (type_argument T).lives)

  module _ (C : Calls 𝓤 𝓛.H) (fm : FmC 𝓤 𝓛.H 𝓛.laws C) (f : Callee) (vs : List Val) (T : Held) (n : ℕ)
      (κs : Lfts n) (qs : Shares n) (F : Fml) (Y : ℤ → SProp 𝓤) where
    abbrev P : SProp 𝓤
    P = toks 𝓛 n κs qs

    abbrev Q : SProp 𝓤
    Q = all_toks n κs qs

    without_static : (v : Val) → ent 𝓤 (sep 𝓤 (Gives 𝓛 i32 Q Y v) (emp 𝓤)) (Gives 𝓛 i32 P Y v)
    without_static v =
        qed 𝓛 (later (some (λ (r : ℤ). (raw Q ⊛ ‵ (i32.own_val r (v ∷ []))) ⊛ raw (Y r))) ∷ ‵ ftrue ∷ []) ∵
        updating ! $ await ! tt $ pick ! (λ r. split ! $ split ! $ use1 𝓛 (raw P) (removes n κs qs) $
        move ! (3 ∷ []) $ drop ! $ at_once ! $ show ! (Returned 𝓛 i32 P Y v) r $ join ! $ done !)

    at_static : ent 𝓤 (sep 𝓤 (sep 𝓤 Q (sem 𝓛 F)) (sep 𝓤 (outlives T) (emp 𝓤))) (C f vs (Gives 𝓛 i32 Q Y))
        → ent 𝓤 (sep 𝓤 (sep 𝓤 P (sem 𝓛 F)) (emp 𝓤)) (C f vs (Gives 𝓛 i32 P Y))
    at_static met =
        let lives : [] ⊑ T.R.lives = subst (λ (l : Lft). [] ⊑ l) (sym T.free) (⊑_static []) in
        qed 𝓛 ((raw P ⊛ ‵ F) ∷ ‵ ftrue ∷ []) ∵ split ! $ use1 𝓛 (raw Q) (adds n κs qs) $ join ! $
        use0 𝓛 (raw (outlives T)) (fact_i 𝓤 _ (emp 𝓤) lives) $ nothing ! $ move ! (1 ∷ 0 ∷ []) $ join ! $
        move ! (1 ∷ 0 ∷ []) $ join ! $ use1 𝓛 (raw (C f vs (Gives 𝓛 i32 Q Y))) met $
        by ! (fm f vs (Gives 𝓛 i32 Q Y) (Gives 𝓛 i32 P Y) (emp 𝓤) without_static)

-- T: what lies at both handles.  Says: the clause, by these values and the number
module _ (T : Held) (Says : (κs : Lfts 2) → T.Value → T.Value → ℕ → Denots (Rows searching.args κs)
    → Exits searching.args κs → ℤ → Type 0) where
  pub follows_generic : {M : Type 1} (𝓤 : Ura M) (𝓛 : Logic 𝓤) (𝓜 : Model 𝓤 𝓛.H) (𝓡 : Running 𝓤 𝓛.H 𝓜)
      {k f : Callee} (μ μ' : Mutability) → let 𝓣 = tables 𝓤 𝓛.H 𝓜 𝓡 𝓡.env in
      Closed 𝓤 𝓛.H 𝓣.C 𝓣.Λ k (code f T.R μ T.R μ' searching.args)
      → ((κs : Lfts 2) (qs : Shares 2) (x : Z.Denot) (n : ℕ) (t : Denots (Rows searching.args κs))
      (g : T.Value × T.Value) (b o α : ℕ) (γ : GName) (b' o' α' : ℕ) (γ' : GName)
      → let A = loans searching T T Says 𝓛 (by_shr 𝓛 T) (by_shr 𝓛 T) κs qs x n t g in
      let Q = all_toks 𝓛 4 (α ∷ [], (α' ∷ [], κs)) (full_share, (full_share, qs)) in
      ent 𝓤 (sep 𝓤 (sep 𝓤 Q (sem 𝓛 (Taken 𝓛 T.R T.R A b o α γ b' o' α' γ'))) (sep 𝓤 (outlives 𝓛 T) (emp 𝓤)))
      (𝓣.C f (heap_laws.the_told.val x ∷ vptr b o ∷ vptr b' o' ∷ vint w64 n ∷ values searching.args κs t)
      (Gives 𝓛 i32 Q (Said 𝓛 T.R T.R A b o α γ b' o' α' γ'))))
      → let E = exported searching T T Says in
      Triple 𝓤 (𝓣.C k) (triple_of 𝓛 E.signature (closing 𝓛 E (promised searching T T Says 𝓛)))
  follows_generic 𝓤 𝓛 𝓜 𝓡 {k} {f} μ μ' closed serves =
      let 𝓣 = tables 𝓤 𝓛.H 𝓜 𝓡 𝓡.env in
      follows searching T T Says 𝓤 𝓛 𝓜 𝓡 (by_shr 𝓛 T) (by_shr 𝓛 T) μ μ' closed
      (λ κs qs x n t g b o α γ b' o' α' γ'.
      let A = loans searching T T Says 𝓛 (by_shr 𝓛 T) (by_shr 𝓛 T) κs qs x n t g in
      at_static 𝓛 𝓣.C (framed 𝓤 𝓛.H 𝓜 𝓣) f
      (heap_laws.the_told.val x ∷ vptr b o ∷ vptr b' o' ∷ vint w64 n ∷ values searching.args κs t) T 4
      (α ∷ [], (α' ∷ [], κs)) (full_share, (full_share, qs)) (Taken 𝓛 T.R T.R A b o α γ b' o' α' γ')
      (Said 𝓛 T.R T.R A b o α γ b' o' α' γ') (serves κs qs x n t g b o α γ b' o' α' γ'))

-- what the generic function is called with
abbrev pub passed_generic : {X X' : Type 0} (κs : Lfts 2) → Shares 2 → Z.Denot → ℕ
    → (t : Denots (Rows searching.args κs)) → X → ℕ → ℕ → ℕ → X' → ℕ → ℕ → ℕ
    → ((ls : Lfts 5) × Shares 5 × ((ls.0 ⊑ ls.1.1.1.1.0) × ((ls.1.0 ⊑ ls.1.1.1.1.0) × Unit {0}))
    × (Z.Denot × (X × (X' × (ℕ × Denots (Rows searching.args κs)))))
    × (List Val × (List Val × (List Val × (List Val × Valss (Rows searching.args κs)))))) × Unit {0}
passed_generic κs qs x n t ref b o α ref' b' o' α' = (
  (
    with_static 4 (α ∷ [], (α' ∷ [], κs)),
    with_share 4 (full_share, (full_share, qs)),
    (⊑_static (α ∷ []), (⊑_static (α' ∷ []), tt)),
    (x, (ref, (ref', (n, t)))),
    (told x, (vptr b o ∷ [], (vptr b' o' ∷ [], (vint w64 n ∷ [], stored searching.args κs t)))),
  ),
  tt,
)
