use Rattle.std.proofs.Common.{◌∙◌, ◌++◌, ◌∷◌, [], ℕ, List, length, slice_index, take, sym, ap, subst, arith}
use Rattle.std.proofs.lemmas.List.{length_push, map-append, take_more, take_all}
use Rattle.aio_model.specs.Serving.Asked.{requests_of}
use Rattle.img_streams.specs.declared.room.Room.{Room}
use Rattle.img_streams.specs.Rooms.{IsRoomFor}
use Rattle.stream_ends.specs.Images.{counts_for}
use Rattle.stream_ends.specs.Starts.{AllAt}
use Rattle.stream_ends.proofs.Places.{all_push}
use Rattle.stream_ends.proofs.room.rooms_in.Goals as goal

pub loop-id-preserved : goal.loop-id-preserved
loop-id-preserved c =
    let lines = c.args.script.now.lines in
    let ids = c.args.ids.now in
    let i = c.loop-id.id-index in
    let F : ℕ → Room → Type 0 = λ k room. IsRoomFor lines (slice_index ids k) room in
    let one = c.in_ok-room.room in
    let old = c.loop-id.rooms.items in
    let pushed = c.push_reserved-in-loop-id.ensures in
    let count = c.requests.ensures ∙ c.in_ok-room.ensures.many in
    record {
      many = omega (arith, c.loop-id.invariant.many, length_push old one, ap (λ (l : List Room). length l) pushed.items);
      each = subst (AllAt F) (sym pushed.items) (all_push F old one c.loop-id.invariant.each (subst (λ k. F k one) (sym c.loop-id.invariant.many) c.in_ok-room.ensures));
      counted =
          c.push_reserved.ensures.items
          ∙ ap (λ (l : List ℕ). l ++ c.requests.result ∷ []) c.loop-id.invariant.counted
          ∙ ap (λ (n : ℕ). counts_for lines (take i ids) ++ n ∷ []) count
          ∙ sym (map-append (λ id. requests_of id lines) (take i ids) (slice_index ids i ∷ []))
          ∙ ap (counts_for lines) (sym (take_more ids i 0 c.loop-id-test.true));
      room = omega (arith, c.loop-id.invariant.room, pushed.capacity);
      count_room = omega (arith, c.loop-id.invariant.count_room, c.push_reserved.ensures.capacity);
    }

pub returns : goal.returns
returns c =
    let lines = c.args.script.now.lines in
    let ids = c.args.ids.now in (
      c.loop-id.invariant.counted ∙ ap (counts_for lines) (take_all c.loop-id.id-index ids c.loop-id-test.false),
      record {
        many = omega (arith, c.loop-id.invariant.many, c.loop-id-test.false, c.loop-id.auto.id-index-end, ap (λ (l : List Room). length l) c.from_vec.ensures.items);
        each = subst (AllAt (λ k room. IsRoomFor lines (slice_index ids k) room)) (sym c.from_vec.ensures.items) c.loop-id.invariant.each;
      },
    )
