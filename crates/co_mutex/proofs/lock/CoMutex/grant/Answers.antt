use Rattle.std.proofs.Common.{ap, sym, subst, ◌∙◌}
use Rattle.co_mutex.specs.Places.{Granting, OnDuty, side_of}
use Rattle.co_mutex.proofs.Codes.{M}
use Rattle.co_mutex.proofs.WakeCodes.{roomy, granted_of}
use Rattle.co_mutex.proofs.lock.CoMutex.grant.Goals as goal

pub store_grant-requires-clause-duty : goal.store_grant-requires-clause-duty
store_grant-requires-clause-duty g c =
    let named = c.load_who-who.ensures.step c.args.list.waiting c.requires.duty in
    let place = ap (λ (z : M g.row.P-Value.Denot). z.0.place) c.put_list.ensures.list ∙ ap (λ (z : M g.row.P-Value.Denot). z.0.place) named in
    (c.load_who-who.result, c.args.list.waiting, c.args.list.last, place ∙ ap (λ s. OnDuty s (Granting c.args.q c.load_who-who.result c.args.list.waiting)) (sym (ap side_of place)), ap (λ (z : M g.row.P-Value.Denot). z.1) (c.put_list.ensures.list) ∙ roomy c.args.list c.requires.list.1)

pub returns-clause-granted : goal.returns-clause-granted
returns-clause-granted g c =
    let named = c.load_who-who.ensures.step c.args.list.waiting c.requires.duty in
    let known = ap (λ (z : M g.row.P-Value.Denot). z.0) c.put_list.ensures.list ∙ ap (λ (z : M g.row.P-Value.Denot). z.0) named in
    let place = ap (λ (z : M g.row.P-Value.Denot). z.0.place) c.put_list.ensures.list ∙ ap (λ (z : M g.row.P-Value.Denot). z.0.place) named in
    let same = ap side_of place in
    granted_of _ _ _ c.args.q c.load_who-who.result _ c.store_grant.new.pass.seat.me known (subst (λ s. Rattle.co_mutex.specs.Plays.Grants s c.args.q c.load_who-who.result (Rattle.co_mutex.specs.LockWords.grant_at c.args.q) c.put_list.new.pass.seat.me.0 c.store_grant.new.pass.seat.me) same (c.store_grant.ensures.step c.load_who-who.result c.args.list.waiting (place ∙ ap (λ s. OnDuty s (Granting c.args.q c.load_who-who.result c.args.list.waiting)) (sym same))))
