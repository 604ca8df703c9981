-- The present request: what it asks, and how far it has come.
use Rattle.std.specs.Prelude.{◌≡◌, ℕ, Option, Some, None}
use Rattle.aio_model.specs.declared.serving.requests.Request.{Request}
use Rattle.aio_model.specs.declared.serving.requests.Request.TheVariants.{Read, Write, Zero, Flush}
use Rattle.aio_model.specs.Serving.{place_of, length_of}
use Rattle.img_requests.specs.declared.present.RequestKind.{RequestKind}
use Rattle.img_requests.specs.declared.present.RequestKind.TheVariants.{Read as read, Write as write, Zero as zero_out, Flush as flush}
use Rattle.img_requests.specs.declared.present.Stage.{Stage}
use Rattle.img_requests.specs.declared.present.Stage.TheVariants.{Begun}
use Rattle.img_requests.specs.declared.present.Present.{Present}

abbrev pub kind_of : Request → RequestKind
kind_of (Read at len) = read
kind_of (Write at bytes) = write
kind_of (Zero at len) = zero_out
kind_of Flush = flush

-- the request as it is present in a stream, with so many bytes done
abbrev pub present_of : ℕ → Request → ℕ → Stage → Present
present_of stream request done stage =
    record {
      stream = stream;
      kind = kind_of request;
      at = place_of request;
      length = length_of request;
      done = done;
      stage = stage;
    }

-- the request as it is begun
abbrev pub begun_of : ℕ → Request → Present
begun_of stream request = present_of stream request 0 Begun

-- how many bytes of the present request were served
abbrev pub done_of : Option Present → ℕ
done_of None = 0
done_of (Some present) = present.done

-- the present request is this one of this stream, and its next piece may be served
abbrev pub IsBegun : ℕ → Request → Option Present → Type 0
IsBegun stream request present = present ≡ Some (present_of stream request (done_of present) Begun)
