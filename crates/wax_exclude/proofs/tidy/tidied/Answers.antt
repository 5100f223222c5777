use Rattle.std.proofs.Common.{◌≡◌, ◌∙◌, ◌<◌, [], All, ap, arith, eqb-true, filter_map, length, slice_get}
use Rattle.std.proofs.{Common.{subst, sym}, lemmas.Bool.eqb-false, lemmas.List.nil_from_length}
use Rattle.std.specs.List.{AllZip}
use Rattle.wax_exclude.proofs.TidyUp.{IsLeft, all_left, all_within, fewer, fewer_left, tidied_up}
use Rattle.wax_exclude.proofs.tidy.tidied.Goals.{In_ok-found, In_ok-idle, In_ok-indexes-2}
use Rattle.wax_exclude.proofs.Undecided.{each_undecided}
use Rattle.wax_exclude.specs.{Idle.{AreIdle, without}, Tidy.{TidiesUp, indexes_of}}
use Rattle.wax_exclude.specs.Undecided.{AreUndecided, IsUndecided}
use Rattle.wax_exclude.specs.inner.Tidy.{IsRenumbered, unknown_indexes}
use Rattle.wax_exclude.proofs.tidy.tidied.Goals as goal

pub loop-removed-init : goal.loop-removed-init
loop-removed-init c =
    let lines = c.args.lines.now in
    subst (λ removed. IsLeft lines removed c.in_ok-indexes.indexes.items) (sym c.new-removed.ensures.items)
    (subst (IsLeft lines []) (sym c.in_ok-indexes.ensures) (all_left lines))

-- the lines that are left
are_left : (c : In_ok-idle)
    → c.in_ok-left.left.items ≡ filter_map (slice_get c.args.lines.now) c.loop-removed.indexes.items
are_left c = c.in_ok-left.ensures ∙ ap (filter_map (slice_get c.args.lines.now)) c.deref.ensures.value

-- those that decide nothing
are_idle : (c : In_ok-idle) → AreIdle c.in_ok-left.left.items c.in_ok-idle.idle.items
are_idle c =
    subst (λ lines. AreIdle lines c.in_ok-idle.idle.items) c.deref-in-loop-removed.ensures.value
    c.in_ok-idle.ensures.idle

-- those of which it isn't known
are_undecided : (c : In_ok-idle)
    → AreUndecided c.in_ok-left.left.items c.args.most_states c.in_ok-idle.idle.items
are_undecided c =
    subst (λ lines. AreUndecided lines c.args.most_states c.in_ok-idle.idle.items)
    c.deref-in-loop-removed.ensures.value c.in_ok-idle.ensures.undecided

pub returns-then-is_empty-clause-undecided : goal.returns-then-is_empty-clause-undecided
returns-then-is_empty-clause-undecided c =
    let at = (goal.at.returns-then-is_empty-clause-undecided c).In_ok-idle in
    let left = c.in_ok-left.left.items in
    let most = c.args.most_states in
    subst (All (IsUndecided left most))
    (sym (c.in_ok-unknown.ensures ∙ ap unknown_indexes c.deref-in-loop-removed-2.ensures.value))
    (each_undecided left most c.in_ok-idle.idle.items (are_undecided at))

pub returns-then-is_empty-clause-tidy : goal.returns-then-is_empty-clause-tidy
returns-then-is_empty-clause-tidy c =
    let at = (goal.at.returns-then-is_empty-clause-tidy c).In_ok-idle in
    let lines = c.args.lines.now in
    let left = c.in_ok-left.left.items in
    let removed = c.loop-removed.removed.items in
    let indexes = c.loop-removed.indexes.items in
    let known = c.known_of-known.result in
    let none : length known.items ≡ 0 =
    omega (arith, eqb-true known.len 0 (sym c.if-is_empty.ensures), known.ok.0) in
    subst (TidiesUp lines removed indexes left)
    (sym (c.in_ok-unknown.ensures ∙ ap unknown_indexes c.deref-in-loop-removed-2.ensures.value))
    (tidied_up lines left removed indexes c.loop-removed.invariant (are_left at) c.in_ok-idle.idle.items
    (are_idle at) known.items c.known_of-known.ensures (nil_from_length known.items none))

pub renumbered-requires : goal.renumbered-requires
renumbered-requires c =
    let at = (goal.at.renumbered-requires c).In_ok-idle in
    let known = c.known_of-known.result.items in
    let indexes = c.loop-removed.indexes.items in
    subst (λ ks. All (λ line. line.index < length ks) c.deref-in-loop-removed-3.result.now)
    (sym c.deref-in-loop-removed-4.ensures.value)
    (subst (λ lines. All (λ line. line.index < length indexes) lines)
    (sym c.deref-in-loop-removed-3.ensures.value)
    (all_within c.args.lines.now c.in_ok-left.left.items c.loop-removed.removed.items indexes
    c.loop-removed.invariant (are_left at) c.in_ok-idle.idle.items (are_idle at) known
    c.known_of-known.ensures))

-- those with their indexes in the whole list
are_found : (c : In_ok-found) → AllZip (IsRenumbered c.loop-removed.indexes.items)
    c.known_of-known.result.items c.in_ok-found.found.items
are_found c =
    subst (λ ks. AllZip (IsRenumbered ks) c.known_of-known.result.items c.in_ok-found.found.items)
    c.deref-in-loop-removed-4.ensures.value
    (subst (λ lines. AllZip (IsRenumbered c.deref-in-loop-removed-4.result.now) lines
    c.in_ok-found.found.items) c.deref-in-loop-removed-3.ensures.value c.in_ok-found.ensures)

-- the indexes of the lines that stay
they_stay : (c : In_ok-indexes-2)
    → c.in_ok-indexes-2.indexes.items ≡ without (indexes_of c.known_of-known.result.items)
    c.loop-removed.indexes.items
they_stay c =
    c.in_ok-indexes-2.ensures
    ∙ ap (λ lines. without (indexes_of lines) c.deref-in-loop-removed-6.result.now)
    c.deref-in-loop-removed-5.ensures.value
    ∙ ap (without (indexes_of c.known_of-known.result.items)) c.deref-in-loop-removed-6.ensures.value

pub loop-removed-smaller : goal.loop-removed-smaller
loop-removed-smaller c =
    let places = goal.at.loop-removed-smaller c in
    let known = c.known_of-known.result in
    let indexes = c.loop-removed.indexes.items in
    let some : 0 < length known.items =
    omega (arith, eqb-false known.len 0 (sym c.if-is_empty.ensures), known.ok.0) in
    subst (λ ks. length ks < length indexes) (sym (they_stay places.In_ok-indexes-2))
    (fewer known.items c.in_ok-found.found.items indexes (are_found places.In_ok-found) some)

pub loop-removed-preserved : goal.loop-removed-preserved
loop-removed-preserved c =
    let places = goal.at.loop-removed-preserved c in
    let lines = c.args.lines.now in
    subst (λ removed. IsLeft lines removed c.in_ok-indexes-2.indexes.items) (sym c.in_ok-append.ensures.items)
    (subst (IsLeft lines _) (sym (they_stay places.In_ok-indexes-2))
    (fewer_left lines c.in_ok-left.left.items c.loop-removed.removed.items c.loop-removed.indexes.items
    c.loop-removed.invariant (are_left places.In_ok-idle) c.in_ok-idle.idle.items (are_idle places.In_ok-idle)
    c.known_of-known.result.items c.known_of-known.ensures c.in_ok-found.found.items
    (are_found places.In_ok-found)))
