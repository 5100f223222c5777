use Rattle.std.proofs.Common.{IsPermutation, ◌≡◌, ◌∷◌, ◌++◌, [], sym, ◌∙◌, ap, subst}
use Rattle.std.proofs.lemmas.Result.{IfOk-weaker}
use Rattle.wax_lazy.specs.inner.Table.{IsJoinOf}
use Rattle.wax_states.specs.States.{places_or_none}
use Rattle.wax_lazy.proofs.Chains.{joined_place, parted_chain}
use Rattle.wax_lazy.proofs.cache.Cache.end_chain.Goals as goal

pub intern_parted-requires-clause-target : goal.intern_parted-requires-clause-target
intern_parted-requires-clause-target c =
    let code = c.args.program.now.0 in
    let states = c.args.self.now.table.states.items in
    let target = places_or_none states c.args.chain.failure in
    let all : c.push-2.new.self.items ≡ target ++ c.args.chain.place ∷ [] =
    c.in_ok-push-2.ensures.items
    ∙ ap (λ z. z ++ c.args.chain.place ∷ []) (c.in_ok-extend_from_slice.ensures.items ∙ ap
    (λ z. z ++ c.places_or_none.result.now) c.clear-2.ensures.items ∙ sym c.places_or_none.ensures) in
    let others : c.push.new.self.items ≡ c.args.chain.place ∷ [] =
    c.in_ok-push.ensures.items ∙ ap (λ z. z ++ c.args.chain.place ∷ []) c.clear.ensures.items in
    let union = joined_place code target c.sort_unstable.new.self.items c.args.chain.place (subst
    (λ z. IsPermutation z c.sort_unstable.new.self.items) all c.sort_unstable.ensures.permutation) in
    parted_chain code states c.args.chain.failure c.sort_unstable.new.self.items
    c.push.new.self.items c.requires.has_state
    (subst (IsJoinOf code c.sort_unstable.new.self.items target) (sym others) union)

pub returns-clause-union : goal.returns-clause-union
returns-clause-union c =
    let code = c.args.program.now.0 in
    let states = c.args.self.now.table.states.items in
    let new = c.intern_parted.new.self.table.states.items in
    let target = places_or_none states c.args.chain.failure in
    let all : c.push-2.new.self.items ≡ target ++ c.args.chain.place ∷ [] =
    c.in_ok-push-2.ensures.items
    ∙ ap (λ z. z ++ c.args.chain.place ∷ []) (c.in_ok-extend_from_slice.ensures.items ∙ ap
    (λ z. z ++ c.places_or_none.result.now) c.clear-2.ensures.items ∙ sym c.places_or_none.ensures) in
    let union = joined_place code target c.sort_unstable.new.self.items c.args.chain.place (subst
    (λ z. IsPermutation z c.sort_unstable.new.self.items) all c.sort_unstable.ensures.permutation) in
    IfOk-weaker c.intern_parted.result _ _
    (λ state made. subst (λ z. IsJoinOf code z target (c.args.chain.place ∷ [])) (sym made.places_are) union)
    c.intern_parted.ensures.interned
