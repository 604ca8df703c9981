use Rattle.std.proofs.Common.{◌≡◌, ℕ, ◌≤◌, false, get_or}
use Rattle.lot_pool.specs.Pools.{IsHomeOf, GivesAll, kept_among}
use Rattle.lot_pool.proofs.pool.LotPool.give_each_kept.Given as goal

abbrev pub invariant-loop-index : goal.invariant-loop-index
invariant-loop-index g l = record {
  home : IsHomeOf l.self l.home;
  given : GivesAll l.self (kept_among l.self.handles l.index l.initial.home.keeps) l.initial.home l.home;
  later : (j : ℕ) → l.index ≤ j → get_or l.home.keeps j false ≡ get_or l.initial.home.keeps j false;
}
