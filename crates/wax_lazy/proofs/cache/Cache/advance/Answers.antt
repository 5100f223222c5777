use Rattle.std.proofs.{Common.{sym, subst}, lemmas.Result.IfOk-weaker}
use Rattle.wax_states.proofs.Replaced.{leads_alike}
use Rattle.wax_states.specs.States.{LeadsNext, places_at}
use Rattle.wax_lazy.proofs.cache.Cache.advance.Goals as goal

pub returns-in-Some-clause-leads : goal.returns-in-Some-clause-leads
returns-in-Some-clause-leads c =
    let code = c.args.program.now.0 in
    let states = c.args.self.now.table.states.items in
    leads_alike code states (places_at states c.args.state) c.args.c c.letter-letter.result
    c.letter-letter.ensures c.in-Some.next (c.in-Some.ensures code c.requires.here.cache)

pub returns-in-None-clause-leads : goal.returns-in-None-clause-leads
returns-in-None-clause-leads c =
    IfOk-weaker c.fill.result _ _
    (leads_alike c.args.program.now.0 c.fill.new.self.table.states.items
    (places_at c.args.self.now.table.states.items c.args.state) c.args.c c.letter-letter.result
    c.letter-letter.ensures)
    c.fill.ensures.leads

pub record-requires-clause-leads : goal.record-requires-clause-leads
record-requires-clause-leads c =
    let code = c.args.program.now.0 in
    let made = c.in_ok-next.ensures in
    let states = c.follow_cell.new.self.table.states.items in
    let like = leads_alike code states (places_at c.args.self.now.table.states.items c.args.state) c.args.c
    c.letter-letter.result c.letter-letter.ensures c.in_ok-next.next made.leads in
    subst (λ z. LeadsNext code states z c.args.c c.in_ok-next.next)
    (sym (made.grows.kept c.args.state c.requires.here.has_state).1) like

pub returns-in_ok-record-clause-leads : goal.returns-in_ok-record-clause-leads
returns-in_ok-record-clause-leads c =
    leads_alike c.args.program.now.0 c.follow_cell.new.self.table.states.items
    (places_at c.args.self.now.table.states.items c.args.state) c.args.c c.letter-letter.result
    c.letter-letter.ensures c.in_ok-next.next c.in_ok-next.ensures.leads

pub returns-else-is_often_met-clause-leads : goal.returns-else-is_often_met-clause-leads
returns-else-is_often_met-clause-leads c =
    leads_alike c.args.program.now.0 c.follow_cell.new.self.table.states.items
    (places_at c.args.self.now.table.states.items c.args.state) c.args.c c.letter-letter.result
    c.letter-letter.ensures c.in_ok-next.next c.in_ok-next.ensures.leads
