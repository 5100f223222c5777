-- A piece that is a whole program accepts exactly the texts that lead through it.
use Rattle.std.proofs.Common.{◌≡◌, ℕ, zero, suc, ◌+◌, List, [], ◌∷◌, ◌++◌, length, Some, slice_get, refl, sym}
use Rattle.std.proofs.Common.{◌∙◌, ap, subst, inl, inr, arith, append_assoc, append-nil, length-append}
use Rattle.std.proofs.lemmas.Option.{slice_get_within}
use Rattle.wax_program.specs.{declared.instruction.Instruction.Instruction, Machine.{AcceptsIn, Accepts}}
use Rattle.wax_match.specs.inner.Ends.{Stands}
use Rattle.wax_match.proofs.Fragments.{Through, Spells}

get_seam : (pre : List Instruction) (i : Instruction) (post : List Instruction)
    → slice_get (pre ++ i ∷ post) (length pre) ≡ Some i
get_seam [] i post = refl
get_seam (j ∷ pre) i post = get_seam pre i post

pub stands_at : (pre piece : List Instruction) → Stands (pre ++ piece) (length pre) piece
stands_at pre [] = tt
stands_at pre (i ∷ is) =
    let e : (pre ++ i ∷ []) ++ is ≡ pre ++ i ∷ is = append_assoc pre (i ∷ []) is in
    let f : length (pre ++ i ∷ []) ≡ length pre + 1 = omega (arith, length-append pre (i ∷ [])) in (
      get_seam pre i is,
      subst (λ k. Stands (pre ++ i ∷ is) k is) f
          (subst (λ z. Stands z (length (pre ++ i ∷ [])) is) e (stands_at (pre ++ i ∷ []) is)),
    )

module _ {piece : List Instruction} {P : List ℕ → Type 0} (f : Spells piece P) where
  pub program_sound : (s : List ℕ) → Accepts piece 0 s → P s
  program_sound s h =
      let r : Through P piece (length piece) h.0 s =
      f.sound piece 0 (length piece) h.0 s (stands_at [] piece) (omega arith) h.1 in
      ended r.left r r.on
    where
      ended : (m : ℕ) (r : Through P piece (length piece) h.0 s)
          → AcceptsIn piece m (length piece) r.back → P s
      ended zero r g = absurd g
      ended (suc m) r (inl g) =
          subst P (sym (r.splits ∙ ap (λ z. r.front ++ z) g.1 ∙ append-nil r.front)) r.meant
      ended (suc m) r (inr g) = absurd (past g.0 g.1)
        where
          past : (i : Instruction) → slice_get piece (length piece) ≡ Some i → ⊥
          past i e = omega (arith, slice_get_within piece (length piece) i e)

  pub program_complete : (s : List ℕ) → P s → Accepts piece 0 s
  program_complete s h = subst (Accepts piece 0) (append-nil s)
      (f.complete piece 0 (length piece) s [] (stands_at [] piece) (omega arith) h (1, inl (refl, refl)))
