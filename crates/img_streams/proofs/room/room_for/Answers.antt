use Rattle.std.proofs.Common.{◌∙◌, ◌∷◌, [], length, map, ap, sym, arith, length-append}
use Rattle.std.proofs.lemmas.List.{length-map}
use Rattle.img_streams.proofs.Buffering.{rooms}
use Rattle.img_streams.proofs.room.room_for.Goals as goal

pub take_first-buffer-requires : goal.take_first-buffer-requires
take_first-buffer-requires c =
    let e = c.in_ok-add_last.ensures in
    omega (arith, ap (λ l. length l) e, length-append (map (λ buffer. buffer.items) c.in_ok-places.later.items) ([] ∷ []), length-map c.add_last.new.buffers.items (λ buffer. buffer.items))

pub returns : goal.returns
returns c =
    let both = rooms c.args.lines.now c.args.id (map (λ buffer. buffer.items) c.in_ok-places.later.items) c.take_first-buffer.result.items (map (λ buffer. buffer.items) c.take_first-buffer.new.buffers.items)
    c.in_ok-places.ensures.have (sym c.in_ok-add_last.ensures ∙ ap (λ l. map (λ buffer. buffer.items) l) c.take_first-buffer.ensures) in
    record {
      places = c.in_ok-places.ensures.places_are;
      filled = c.in_ok-filled.ensures.0;
      capacity = omega (arith, c.in_ok-filled.ensures.1, length-map c.in_ok-places.later.items (λ buffer. buffer.items), c.in_ok-places.ensures.have.many);
      many = sym (length-map c.take_first-buffer.new.buffers.items (λ buffer. buffer.items)) ∙ both.0;
      have = both.1;
    }
