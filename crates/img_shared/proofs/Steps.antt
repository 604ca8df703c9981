-- What a call's own steps give.
use Rattle.std.proofs.Common.{◌≡◌, ℕ, ◌+◌, ◌-◌, ◌%◌, ◌<◌, ◌≤◌, ◌==◌, inl, inr, Bool, true, false, cond, min, List, Option, Some, None, option_map, OnOk, OnErr, Result, Ok, Err, refl, sym, ap, subst, ◌∙◌, arith}
use Rattle.std.proofs.Common.{◌↔◌, IsTrue, IfSome, length}
use Rattle.std.proofs.lemmas.Bool.{cases_lt, eqb-true, eqb-false}
use Rattle.aio_model.specs.declared.serving.requests.Request.{Request}
use Rattle.aio_model.specs.declared.serving.requests.Request.TheVariants as request
use Rattle.aio_model.specs.Serving.{end_of}
use Rattle.img_requests.specs.declared.present.Present.{Present}
use Rattle.img_requests.specs.declared.present.Stage.{Stage}
use Rattle.img_requests.specs.declared.present.Stage.TheVariants.{Begun}
use Rattle.img_requests.specs.declared.answers.Piece.TheVariants as piece
use Rattle.img_requests.specs.Soundness.{IsInStep}
use Rattle.img_requests.specs.Pieces.{bytes_with, answer_to, done_after, stage_after}
use Rattle.img_requests.specs.Presents.{present_of, kind_of}
use Rattle.aio_model.specs.declared.holds.Hold.TheVariants.{Reads}
use Rattle.img_shared.specs.declared.phases.Phase.{Phase}
use Rattle.img_shared.specs.declared.phases.Phase.TheVariants.{Idle, Waiting, Active, Retired}
use Rattle.img_shared.specs.Soundness.{LiesInside}
use Rattle.img_shared.specs.Phases.{held_by}
use Rattle.img_shared.proofs.Others.{kept_some}

pub kept_reading : {E : Type 0} → (request : Request) (done n : ℕ) (result : Result (Unit {0}) E) (told now : Option (List ℕ))
    → OnOk result (now ≡ option_map (bytes_with request done n) told) → OnErr result (now ≡ told)
    → held_by (kind_of request) ≡ Reads → now ≡ told
kept_reading request done n (Err e) told now put kept reads = kept
kept_reading (request.Read at len) done n (Ok u) told now put kept reads = put ∙ kept_some told
kept_reading request.Flush done n (Ok u) told now put kept reads = put ∙ kept_some told
kept_reading (request.Write at bytes) done n (Ok u) told now put kept reads = cc reads
kept_reading (request.Zero at len) done n (Ok u) told now put kept reads = cc reads

pub within_begun : (size s : ℕ) (request : Request) (present : Present) → present ≡ present_of s request 0 Begun → present.at + present.length ≤ size → LiesInside size s present
within_begun size s request present is within = record {
  own = ap (λ (p : Present). p.stream) is;
  within = within;
  done = omega (arith, ap (λ (p : Present). p.done) is);
  in_step = subst (λ (p : Present). IsInStep p.stage p.done) (sym is) refl;
}

got : Phase → Present → Present
got Idle d = d
got (Waiting p) d = d
got (Active p) d = p
got Retired d = d

pub same_present : (p q : Present) → Active p ≡ Active q → p ≡ q
unfolding got
same_present p q e = ap (λ (x : Phase). got x p) e

within_so : (size s : ℕ) (present : Present) (n : ℕ) (served last : Bool)
    → ((present.done + n) == present.length) ≡ last
    → LiesInside size s present → present.stage ≡ Begun → n ≡ min 4096 (present.length - present.done)
    → LiesInside size s (record present { done = done_after (answer_to served (present.done + n) present.length) present.done n; stage = stage_after (answer_to served (present.done + n) present.length) })
within_so size s present n false last test within begun is = record { own = within.own; within = within.within; done = within.done; in_step = tt }
within_so size s present n true true test within begun is =
    subst (λ (b : Bool). LiesInside size s (record present {
      done = done_after (cond b piece.Whole piece.More) present.done n;
      stage = stage_after (cond b piece.Whole piece.More);
    })) (sym test) (record { own = within.own; within = within.within; done = omega (arith, eqb-true (present.done + n) present.length test); in_step = tt })
within_so size s present n true false test within begun is =
    let step : present.done % 4096 ≡ 0 = subst (λ (stage : Stage). IsInStep stage present.done) begun within.in_step in
    let differ = eqb-false (present.done + n) present.length test in
    let whole : n ≡ 4096 = omega (arith, is, differ, within.done) in
    let next : (present.done + n) % 4096 ≡ 0 = omega (arith, step, whole) in
    subst (λ (b : Bool). LiesInside size s (record present {
      done = done_after (cond b piece.Whole piece.More) present.done n;
      stage = stage_after (cond b piece.Whole piece.More);
    })) (sym test) (record { own = within.own; within = within.within; done = omega (arith, is, within.done); in_step = next })

pub within_piece : (size s : ℕ) (present next : Present) (n : ℕ) (served : Bool)
    → LiesInside size s present → present.stage ≡ Begun → n ≡ min 4096 (present.length - present.done)
    → next ≡ record present { done = done_after (answer_to served (present.done + n) present.length) present.done n; stage = stage_after (answer_to served (present.done + n) present.length) }
    → LiesInside size s next
within_piece size s present next n served within begun is e =
    subst (LiesInside size s) (sym e) (within_so size s present n served ((present.done + n) == present.length) refl within begun is)

pub is_past : (b : Bool) (n m : ℕ) → (IsTrue b ↔ (n < m)) → b ≡ true → n < m
is_past b n m iff e = iff.0 e

pub not_past : (b : Bool) (n m : ℕ) → (IsTrue b ↔ (n < m)) → b ≡ false → m ≤ n
not_past b n m iff e = elim (cases_lt n m) [
  | inl h ↦ cc (sym e ∙ iff.1 h)
  | inr h ↦ omega (arith, h)
]

pub past_end : (s size : ℕ) (request : Request) (present : Present) → present ≡ present_of s request 0 Begun → size < present.at + present.length → size < end_of request
past_end s size request present is past = subst (λ (p : Present). size < p.at + p.length) is past

pub told_inside : (n size extent : ℕ) (told : Option (List ℕ)) → n ≤ size → size ≤ extent → IfSome told (λ bytes. length bytes ≡ extent) → IfSome told (λ bytes. n ≤ length bytes)
told_inside n size extent None within fits many = tt
told_inside n size extent (Some bytes) within fits many = omega (arith, within, fits, many)
