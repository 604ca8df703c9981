use Rattle.std.proofs.Common.{◌≡◌, ◌≤◌, ◌&&◌, not, ℕ, refl, sym, ap, ◌∙◌, subst, slice_index_or, Vec, Global}
use Rattle.aio_core.specs.Calls.{TableState}
use Rattle.co_schedule.specs.Calls.{IsSeatOf as IsCoSeatOf}
use Rattle.loop_rows.specs.declared.rows.Row.{Row}
use Rattle.loop_rows.specs.declared.seats.Seats.{Seats}
use Rattle.co_loop.specs.declared.crew.Crew.{Crew}
use Rattle.co_loop.specs.declared.on_loop.CoLoop.{CoLoop}
use Rattle.co_loop.specs.Again.{is_kept}
use Rattle.co_loop.specs.Crews.{far}
use Rattle.co_loop.specs.Loops.{IsOnLoop, on_loop}
use Rattle.co_loop.specs.Rows.{AreSeatsOfLoops}
use Rattle.co_loop.specs.Numbers.{numbers}
use Rattle.co_loop.proofs.Numbered.{runner_does}
use Rattle.co_loop.proofs.Stationed.{fits_lent, lots_here, home_here, lots_there, home_there, together, fits_again, row_again, numbers_by_turn, turns_for}
use Rattle.co_loop.proofs.working.CoWork.turn.Goals as goal

pub turn-turned-requires-clause-fits : goal.turn-turned-requires-clause-fits
turn-turned-requires-clause-fits g c =
    fits_lent g.C.Origin.is_of c.args.shared.now (g.C.Co.source_of c.args.env.now) c.args.self.crew c.exchange_seats.new.crew c.args.station.row c.args.station.coroutines c.args.self.run c.requires.lent c.exchange_seats.ensures.crew c.requires.can_work.fits

pub turn-turned-requires-clause-lots : goal.turn-turned-requires-clause-lots
turn-turned-requires-clause-lots g c =
    lots_here g.C.Origin.is_of c.args.shared.now c.args.station.number c.args.station.turning.table.now c.args.station.turning.pool.now c.args.station.turning.lot_pass c.requires.station.within c.requires.turning c.requires.station.lots

pub turn-turned-requires-clause-home : goal.turn-turned-requires-clause-home
turn-turned-requires-clause-home g c =
    home_here g.C.Origin.is_of c.args.shared.now c.args.station.number c.args.station.turning.table.now c.args.station.turning.pool.now c.args.station.turning.home.seat c.requires.station.within c.requires.turning c.requires.station.home

pub returns-clause-station : goal.returns-clause-station
returns-clause-station g c =
    let on = c.requires.turning in
    let after = c.turn-turned.new.self in
    let place = c.turn-turned.ensures.place in
    let fits = subst (λ (s : _). IsOnLoop g.C.Origin.is_of (g.C.Co.source_of after.env.now) s.now after.crew after.home after.run) place.0 c.turn-turned.ensures.fits in
    let row_end = c.exchange_seats-2.new.row in
    let seats_are : row_end.seats ≡ after.crew.seats = ap (λ (r : Row g.row.C.Denot g.row.C-Source.Denot). r.seats) c.exchange_seats-2.ensures.row in
    let own : after.crew.own ≡ c.args.station.number = place.2.own ∙ ap (λ (k : Crew g.row.C.Denot g.row.C-Source.Denot). k.own) c.exchange_seats.ensures.crew ∙ c.requires.can_work.own in
    record {
      within = c.requires.station.within;
      home = home_there g.C.Origin.is_of c.args.shared.now c.args.station.number c.args.station.turning.table.now c.args.station.turning.pool.now c.turn-turned.new.aio.home.seat on c.turn-turned.ensures.home;
      walking = c.turn-turned.ensures.walking;
      lots = lots_there g.C.Origin.is_of c.args.shared.now c.args.station.number c.args.station.turning.table.now c.args.station.turning.pool.now c.turn-turned.new.aio.lot_pass on c.turn-turned.ensures.lots;
      coroutines = λ t. subst (λ (k : ℕ). IsCoSeatOf (slice_index_or c.args.shared.now k t).coroutines after.home) own (fits.home_of t).home_of;
      row = row_again c.args.shared.now c.args.station.row row_end after.crew.coroutines c.requires.station.row
          (subst (λ (v : Vec (Seats g.row.C.Denot g.row.C-Source.Denot) Global). AreSeatsOfLoops after.crew.coroutines c.args.shared.now v.items) (sym seats_are) fits.is_crew.row)
          (ap (λ (v : Vec (Seats g.row.C.Denot g.row.C-Source.Denot) Global). numbers v.items) seats_are
          ∙ numbers_by_turn _ (λ (e : CoLoop g.row.C.Denot g.row.E.Denot g.row.R.Denot g.row.C-Source.Denot). far e.crew) _ (λ a e b d. runner_does g.C.Origin.is_of g.C.Co.resumes a.shared.now e (on_loop a.crew a.home a.is_ended) (on_loop b.crew b.home b.is_ended) d.2) _ _ _ _ _ _ _ _ _ _ _ c.turn-turned.ensures.turns
          ∙ ap (λ (k : Crew g.row.C.Denot g.row.C-Source.Denot). numbers k.seats.items) c.exchange_seats.ensures.crew)
          (ap (λ (r : Row g.row.C.Denot g.row.C-Source.Denot). r.first) c.exchange_seats-2.ensures.row ∙ ap (λ (r : Row g.row.C.Denot g.row.C-Source.Denot). r.first) c.exchange_seats.ensures.row)
          (ap (λ (r : Row g.row.C.Denot g.row.C-Source.Denot). r.count) c.exchange_seats-2.ensures.row ∙ ap (λ (r : Row g.row.C.Denot g.row.C-Source.Denot). r.count) c.exchange_seats.ensures.row);
    }

pub returns-clause-can_work : goal.returns-clause-can_work
returns-clause-can_work g c =
    let after = c.turn-turned.new.self in
    let place = c.turn-turned.ensures.place in
    let fits = subst (λ (s : _). IsOnLoop g.C.Origin.is_of (g.C.Co.source_of after.env.now) s.now after.crew after.home after.run) place.0 c.turn-turned.ensures.fits in
    let crew_end = c.exchange_seats-2.new.crew in
    let back = together g.C.Origin.is_of c.args.shared.now after.crew crew_end c.exchange_seats.new.row c.exchange_seats-2.new.row c.exchange_seats-2.ensures.crew c.exchange_seats-2.ensures.row in
    record {
      fits = fits_again g.C.Origin.is_of c.args.shared.now (g.C.Co.source_of after.env.now) after.crew crew_end c.exchange_seats-2.new.row after.home after.run back fits;
      own = ap (λ (k : Crew g.row.C.Denot g.row.C-Source.Denot). k.own) c.exchange_seats-2.ensures.crew ∙ place.2.own ∙ ap (λ (k : Crew g.row.C.Denot g.row.C-Source.Denot). k.own) c.exchange_seats.ensures.crew ∙ c.requires.can_work.own;
      timers = subst (λ (n : ℕ). n ≤ c.turn-turned.new.aio.side.timers.made) (sym (ap (λ (k : Crew g.row.C.Denot g.row.C-Source.Denot). k.coroutines) c.exchange_seats-2.ensures.crew)) c.turn-turned.ensures.timers;
    }

pub returns-clause-does : goal.returns-clause-does
returns-clause-does g c =
    let after = c.turn-turned.new.self in
    let same = ap (λ (k : Crew g.row.C.Denot g.row.C-Source.Denot). k.coroutines) c.exchange_seats.ensures.crew in
    record {
      runner = record { rt = c.args.rt; env = c.args.env; shared = c.args.shared; crew = c.exchange_seats.new.crew; home = c.args.station.coroutines; run = c.args.self.run; is_ended = c.args.self.is_ended };
      runner_is = record { crew = c.exchange_seats.ensures.crew; home = refl; run = refl; is_ended = refl };
      shared_is = refl;
      runner_after = after;
      after_is = record {
        crew = sym (together g.C.Origin.is_of c.args.shared.now after.crew c.exchange_seats-2.new.crew c.exchange_seats.new.row c.exchange_seats-2.new.row c.exchange_seats-2.ensures.crew c.exchange_seats-2.ensures.row);
        home = refl;
        run = refl;
        is_ended = refl;
      };
      pool = c.args.station.turning.pool.now;
      pool_is = c.requires.turning.pool_is;
      events = c.args.station.turning.table.now.sizes.events;
      events_are = λ t. ap (λ (b : TableState). b.sizes.events) (c.requires.turning.table_is t);
      block = _;
      turned = c.turn-turned.result;
      turns = turns_for same c.turn-turned.ensures.turns;
      ended_is = c.has_ended-ended.ensures ∙ ap (λ l. after.is_ended && (not c.turn-turned.result.progress && not (is_kept l))) c.deref.ensures.value;
    }
