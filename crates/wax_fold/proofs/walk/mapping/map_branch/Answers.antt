use Rattle.std.proofs.Common.{◌∙◌, refl, map}
use Rattle.wax_token.specs.View.{branch_tree}
use Rattle.wax_fold.specs.{Mapped.mapped, inner.OpenTokens.{open_token, mapping}}
use Rattle.wax_fold.proofs.Maps.{mapped_parts, begun, deeper, back, fewer_deeper, fewer_back}
use Rattle.wax_fold.proofs.Picking.{mapped_last}
use Rattle.wax_fold.proofs.walk.mapping.map_branch.Goals as goal

pub loop-token-init : goal.loop-token-init
loop-token-init g c =
    let f = g.F.FoldMap.answers c.args.folder.now in
    record {
      token = begun f (mapped f (branch_tree c.args.branch c.args.annotation)) (λ o. mapping f (open_token o))
          c.new-outer.result.items (open_token c.in_ok-current.current) c.args.branch c.args.annotation
          c.new-outer.ensures.items c.in_ok-current.ensures;
      same = refl;
    }

pub loop-token-smaller-in-Branch : goal.loop-token-smaller-in-Branch
loop-token-smaller-in-Branch g c =
    let f = g.F.FoldMap.answers c.args.folder.now in
    fewer_deeper f
    (map (λ o. mapping f (open_token o)) c.loop-token.outer.items)
    (map (λ o. mapping f (open_token o)) c.push.new.self.items)
    (open_token c.loop-token.current) (open_token c.next_token.new.of)
    (open_token c.in_ok-inner-in-Branch.inner)
    c.into_parts-topology.result.0 c.in-Branch.branch c.in-Some.token c.into_parts-topology.result.1
    (mapped_last (λ o. mapping f (open_token o)) c.push.new.self.items c.loop-token.outer.items
    c.next_token.new.of c.in_ok-push-in-Branch.ensures.items)
    c.in-Some.ensures.0 c.in_ok-inner-in-Branch.ensures c.in-Branch.is c.into_parts-topology.ensures

pub loop-token-preserved-in-Branch : goal.loop-token-preserved-in-Branch
loop-token-preserved-in-Branch g c =
    let f = g.F.FoldMap.answers c.args.folder.now in
    record {
      token = deeper f (mapped f (branch_tree c.args.branch c.args.annotation))
          (map (λ o. mapping f (open_token o)) c.loop-token.outer.items)
          (map (λ o. mapping f (open_token o)) c.push.new.self.items)
          (open_token c.loop-token.current) (open_token c.next_token.new.of)
          (open_token c.in_ok-inner-in-Branch.inner) c.in-Some.token c.in-Branch.branch
          c.into_parts-topology.result.1
          (mapped_last (λ o. mapping f (open_token o)) c.push.new.self.items c.loop-token.outer.items
          c.next_token.new.of c.in_ok-push-in-Branch.ensures.items)
          c.in-Some.ensures c.in_ok-inner-in-Branch.ensures
          (mapped_parts f c.into_parts-topology.result.0 c.in-Branch.branch c.in-Some.token
          c.into_parts-topology.result.1 c.in-Branch.is c.into_parts-topology.ensures)
          c.loop-token.invariant.token;
      same = c.loop-token.invariant.same;
    }

pub loop-token-preserved : goal.loop-token-preserved
loop-token-preserved g c =
    let f = g.F.FoldMap.answers c.args.folder.now in
    record {
      token = back f (mapped f (branch_tree c.args.branch c.args.annotation))
          (map (λ o. mapping f (open_token o)) c.pop.new.self.items)
          (map (λ o. mapping f (open_token o)) c.loop-token.outer.items)
          (open_token c.loop-token.current) (open_token c.next_token.new.of)
          (open_token c.in-Some-pop.around) (open_token c.in_ok-current-in-Some-pop.current)
          (g.F.FoldMap.answers c.loop-token.folder) c.in_ok-made-in-None.made
          (mapped_last (λ o. mapping f (open_token o)) c.loop-token.outer.items c.pop.new.self.items
          c.in-Some-pop.around c.in-Some-pop.ensures.items)
          c.in-None.ensures c.loop-token.invariant.same c.in_ok-made-in-None.ensures.token
          c.in_ok-current-in-Some-pop.ensures c.loop-token.invariant.token;
      same =
          ◌∙◌ {a = g.F.FoldMap.answers c.close.new.folder} c.close.ensures.same c.loop-token.invariant.same;
    }

pub loop-token-smaller : goal.loop-token-smaller
loop-token-smaller g c =
    let f = g.F.FoldMap.answers c.args.folder.now in
    fewer_back f
    (map (λ o. mapping f (open_token o)) c.pop.new.self.items)
    (map (λ o. mapping f (open_token o)) c.loop-token.outer.items)
    (open_token c.loop-token.current) (open_token c.in-Some-pop.around)
    (open_token c.in_ok-current-in-Some-pop.current) c.in_ok-made-in-None.made
    (mapped_last (λ o. mapping f (open_token o)) c.loop-token.outer.items c.pop.new.self.items
    c.in-Some-pop.around c.in-Some-pop.ensures.items)
    c.in_ok-current-in-Some-pop.ensures
