-- What a line says is within the limits, where the lines above it are.
use Rattle.std.proofs.Common.{◌≡◌, ℕ, ◌+◌, ◌&&◌, Bool, true, false, not, nat_le, nat_lt, List, length, refl, sym, subst, arith, Result, Ok, Err}
use Rattle.std.proofs.lemmas.Bool.{leb-true, ltb-true, and_parts}
use Rattle.aio_model.specs.declared.serving.requests.Request.{Request}
use Rattle.aio_model.specs.declared.serving.requests.Request.TheVariants.{Read, Write, Zero, Flush}
use Rattle.aio_model.specs.declared.scripts.image_scripts.Stream.{Stream}
use Rattle.aio_model.specs.declared.scripts.image_scripts.What.{What}
use Rattle.aio_model.specs.declared.scripts.image_scripts.What.TheVariants.{Ask, Delay, Move}
use Rattle.aio_model.specs.Serving.{length_of}
use Rattle.aio_script.specs.declared.refusals.ScriptRefusal.{ScriptRefusal}
use Rattle.aio_script.specs.declared.image.said.Said.{Said}
use Rattle.aio_script.specs.declared.image.said.Said.TheVariants.{Declares, Does}
use Rattle.aio_script.specs.declared.image.said.Counts.{Counts}
use Rattle.aio_script.specs.Text.{number_of, data_of}
use Rattle.aio_script.specs.Image.Forms.{Form, declare, read, write, zeroing, flush, delay, move, form_of}
use Rattle.aio_script.specs.Lines.{Numbered}
use Rattle.aio_script.specs.Image.Bounds.{AsksLittle, IsAtHome, IsWithin}
use Rattle.aio_script.specs.Image.Grammar.{◌>>=◌, bytes_moved, in_number_range, formed, fresh, has_pause, has_room, has_stream, is_known_stream, said_at, said_of, step_of, within, words_at}
use Rattle.aio_script.specs.Image.Progress.{AreLow, counts_with}

-- a stream that is new and at home, or a step of a stream that is known
abbrev pub IsOwn : ℕ → List Stream → Said → Type 0
IsOwn loops streams (Declares stream) = (has_stream stream.id streams ≡ false) × IsAtHome loops stream
IsOwn loops streams (Does step) = IsWithin loops streams step

pub record Fits (loops : ℕ) (streams : List Stream) (counts : Counts) (said : Said) : Type 0 where
  pub low : AreLow (counts_with counts said)
  pub own : IsOwn loops streams said

-- ---- what went well

module _ {D : Type 0} (P : Type 0) (d : D) where
  after_one : {A : Type 0} (a : Result A ScriptRefusal) (f : A → Result D ScriptRefusal)
      → ((x : A) → f x ≡ Ok d → P) → (a >>= f) ≡ Ok d → P
  after_one (Ok x) f so e = so x e
  after_one (Err x) f so e = cc e

  after_two : {A B : Type 0} (a : Result A ScriptRefusal) (b : Result B ScriptRefusal) (f : A → B → Result D ScriptRefusal)
      → ((x : A) (y : B) → f x y ≡ Ok d → P) → (a >>= λ x. b >>= f x) ≡ Ok d → P
  after_two (Ok x) (Ok y) f so e = so x y e
  after_two (Ok x) (Err y) f so e = cc e
  after_two (Err x) b f so e = cc e

  after_three : {A B C : Type 0} (a : Result A ScriptRefusal) (b : Result B ScriptRefusal) (c : Result C ScriptRefusal) (f : A → B → C → Result D ScriptRefusal)
      → ((x : A) (y : B) (z : C) → f x y z ≡ Ok d → P) → (a >>= λ x. b >>= λ y. c >>= f x y) ≡ Ok d → P
  after_three (Ok x) (Ok y) (Ok z) f so e = so x y z e
  after_three (Ok x) (Ok y) (Err z) f so e = cc e
  after_three (Ok x) (Err y) c f so e = cc e
  after_three (Err x) b c f so e = cc e

module _ (P : Type 0) (said : Said) (line : ℕ) where
  past_within : (b : Bool) (r : Result Said ScriptRefusal) → (b ≡ true → r ≡ Ok said → P) → (within line b >>= λ small. r) ≡ Ok said → P
  past_within true r so e = so refl e
  past_within false r so e = cc e

  past_known : (b : Bool) (s : Said) → (b ≡ true → s ≡ said → P) → (is_known_stream line b >>= λ there. Ok s) ≡ Ok said → P
  past_known true s so e = so refl (cc e)
  past_known false s so e = cc e

  past_fresh : (b : Bool) (r : Result Said ScriptRefusal) → (b ≡ false → r ≡ Ok said → P) → (fresh line (not b) >>= λ new. r) ≡ Ok said → P
  past_fresh false r so e = so refl e
  past_fresh true r so e = cc e

-- ---- each form

module _ (line loops : ℕ) (streams : List Stream) (counts : Counts) (said : Said) (low : AreLow counts) where
  fits_ask : (id len moved : ℕ) (request : Request) → bytes_moved (Ask request) ≡ moved → length_of request ≡ len
      → (within line (has_room counts len moved) >>= λ small. step_of line streams id (Ask request)) ≡ Ok said → Fits loops streams counts said
  fits_ask id len moved request moves long e =
      past_within (Fits loops streams counts said) said line (has_room counts len moved) (step_of line streams id (Ask request)) (λ room e2.
      past_known (Fits loops streams counts said) said line (has_stream id streams) (Does (record { stream = id; what = Ask request })) (λ there same.
      let parts = and_parts (nat_le len 65536) _ room in
      let others = and_parts (nat_lt counts.requests 4096) (nat_le (counts.moved + moved) 67108864) parts.1 in
      let small = leb-true len 65536 parts.0 in
      let more = ltb-true counts.requests 4096 others.0 in
      let sum = leb-true (counts.moved + moved) 67108864 others.1 in
      let fit : Fits loops streams counts (Does (record { stream = id; what = Ask request })) = record {
        low = record { requests = omega (arith, more); pauses = low.pauses; moved = omega (arith, sum, moves) };
        own = record { known = there; little = omega (arith, small, long) };
      } in
      subst (Fits loops streams counts) same fit) e2) e

  fits_pause : (id : ℕ) (what : What) (b : Bool) → counts_with counts (Does (record { stream = id; what = what })) ≡ record { requests = counts.requests; pauses = counts.pauses + 1; moved = counts.moved }
      → (b ≡ true → AsksLittle loops what)
      → (within line (b && has_pause counts) >>= λ small. step_of line streams id what) ≡ Ok said → Fits loops streams counts said
  fits_pause id what b with_ little e =
      past_within (Fits loops streams counts said) said line (b && has_pause counts) (step_of line streams id what) (λ room e2.
      past_known (Fits loops streams counts said) said line (has_stream id streams) (Does (record { stream = id; what = what })) (λ there same.
      let parts = and_parts b (has_pause counts) room in
      let more = ltb-true counts.pauses 4096 parts.1 in
      let one : AreLow (record { requests = counts.requests; pauses = counts.pauses + 1; moved = counts.moved }) =
      record { requests = low.requests; pauses = omega (arith, more); moved = low.moved } in
      let fit : Fits loops streams counts (Does (record { stream = id; what = what })) = record {
        low = subst AreLow (sym with_) one;
        own = record { known = there; little = little parts.0 };
      } in
      subst (Fits loops streams counts) same fit) e2) e

  fits_declare : (id home : ℕ)
      → (fresh line (not (has_stream id streams)) >>= λ new. within line (nat_le id 63 && nat_lt home loops) >>= λ small. Ok (Declares (record { id = id; home = home }))) ≡ Ok said
      → Fits loops streams counts said
  fits_declare id home e =
      past_fresh (Fits loops streams counts said) said line (has_stream id streams) (within line (nat_le id 63 && nat_lt home loops) >>= λ small. Ok (Declares (record { id = id; home = home }))) (λ new e2.
      past_within (Fits loops streams counts said) said line (nat_le id 63 && nat_lt home loops) (Ok (Declares (record { id = id; home = home }))) (λ small e3.
      let parts = and_parts (nat_le id 63) (nat_lt home loops) small in
      let fit : Fits loops streams counts (Declares (record { id = id; home = home })) = record {
        low = low;
        own = (new, record { id = leb-true id 63 parts.0; home = ltb-true home loops parts.1 });
      } in
      let same : Declares (record { id = id; home = home }) ≡ said = cc e3 in
      subst (Fits loops streams counts) same fit) e2) e

  pub said_of-fits : (form : Form) → said_of line loops streams counts form ≡ Ok said → Fits loops streams counts said
  said_of-fits (declare s l) e =
      after_two (Fits loops streams counts said) said (in_number_range line (number_of s)) (in_number_range line (number_of l)) (λ id home. fresh line (not (has_stream id streams)) >>= λ new. within line (nat_le id 63 && nat_lt home loops) >>= λ small. Ok (Declares (record { id = id; home = home }))) fits_declare e
  said_of-fits (read s at len) e =
      after_three (Fits loops streams counts said) said (in_number_range line (number_of s)) (in_number_range line (number_of at)) (in_number_range line (number_of len)) (λ id place n. within line (has_room counts n n) >>= λ small. step_of line streams id (Ask (Read place n)))
      (λ id place n. fits_ask id n n (Read place n) refl refl) e
  said_of-fits (write s at text) e =
      after_three (Fits loops streams counts said) said (in_number_range line (number_of s)) (in_number_range line (number_of at)) (in_number_range line (data_of text)) (λ id place bytes. within line (has_room counts (length bytes) (length bytes)) >>= λ small. step_of line streams id (Ask (Write place bytes)))
      (λ id place bytes. fits_ask id (length bytes) (length bytes) (Write place bytes) refl refl) e
  said_of-fits (zeroing s at len) e =
      after_three (Fits loops streams counts said) said (in_number_range line (number_of s)) (in_number_range line (number_of at)) (in_number_range line (number_of len)) (λ id place n. within line (has_room counts n 0) >>= λ small. step_of line streams id (Ask (Zero place n)))
      (λ id place n. fits_ask id n 0 (Zero place n) refl refl) e
  said_of-fits (flush s) e =
      after_one (Fits loops streams counts said) said (in_number_range line (number_of s)) (λ id. within line (has_room counts 0 0) >>= λ small. step_of line streams id (Ask Flush))
      (λ id. fits_ask id 0 0 Flush refl refl) e
  said_of-fits (delay s ns) e =
      after_two (Fits loops streams counts said) said (in_number_range line (number_of s)) (in_number_range line (number_of ns)) (λ id n. within line (nat_le n 1000000000 && has_pause counts) >>= λ small. step_of line streams id (Delay n))
      (λ id n. fits_pause id (Delay n) (nat_le n 1000000000) refl (leb-true n 1000000000)) e
  said_of-fits (move s l) e =
      after_two (Fits loops streams counts said) said (in_number_range line (number_of s)) (in_number_range line (number_of l)) (λ id loop. within line (nat_lt loop loops && has_pause counts) >>= λ small. step_of line streams id (Move loop))
      (λ id loop. fits_pause id (Move loop) (nat_lt loop loops) refl (ltb-true loop loops)) e

pub said_at-fits : (loops : ℕ) (streams : List Stream) (counts : Counts) (numbered : Numbered) (said : Said)
    → AreLow counts → said_at loops streams counts numbered ≡ Ok said → Fits loops streams counts said
said_at-fits loops streams counts numbered said low e =
    after_one (Fits loops streams counts said) said (words_at numbered) (λ words. formed numbered.number (form_of words) >>= λ form. said_of numbered.number loops streams counts form)
    (λ words e2. after_one (Fits loops streams counts said) said (formed numbered.number (form_of words)) (said_of numbered.number loops streams counts)
    (λ form e3. said_of-fits numbered.number loops streams counts said low form e3) e2) e
