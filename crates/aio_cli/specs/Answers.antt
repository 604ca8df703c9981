-- What an answer of the program says.
use Rattle.std.specs.Prelude.{◌≡◌, ℕ, ◌<◌, ◌≤◌, List, Option}
use Rattle.aio_model.specs.declared.serving.replies.Placed.{Placed}
use Rattle.aio_model.specs.Serving.SerialHistory.{errors_of, eios_of}
use Rattle.aio_words.specs.Faults.{HasRisen}
use Rattle.aio_script.specs.declared.refusals.ScriptRefusal.{ScriptRefusal}
use Rattle.aio_cli.specs.Reading.{IsTooLong, Refuses, RefusesLoop}
use Rattle.aio_cli.specs.declared.answer.Answer.{Answer}
use Rattle.aio_cli.specs.declared.answer.Answer.TheVariants.{Done, Errors, Usage, BadScript, TooLong, TooLarge, ReadFault, WriteFault, NoMemory, DeviceFault}

abbrev pub status_of : Answer → ℕ
status_of Done = 0
status_of (Errors n) = 1
status_of Usage = 2
status_of (BadScript refusal) = 3
status_of TooLong = 4
status_of (TooLarge image device) = 5
status_of ReadFault = 6
status_of WriteFault = 7
status_of NoMemory = 8
status_of DeviceFault = 9

-- a fact for answers at which the script was served and all was written
abbrev pub OnWritten : Answer → Type 0 → Type 0
OnWritten Done P = P
OnWritten (Errors n) P = P
OnWritten answer P = Unit {0}

-- a fact for the answer at which it was served, and not all was written
abbrev pub OnCut : Answer → Type 0 → Type 0
OnCut WriteFault P = P
OnCut answer P = Unit {0}

-- a fact for answers at which nothing was served
abbrev pub OnUnserved : Answer → Type 0 → Type 0
OnUnserved Done P = Unit {0}
OnUnserved (Errors n) P = Unit {0}
OnUnserved WriteFault P = Unit {0}
OnUnserved answer P = P

-- a fact for answers that come before the device is asked for anything
abbrev pub OnUnasked : Answer → Type 0 → Type 0
OnUnasked Usage P = P
OnUnasked (BadScript refusal) P = P
OnUnasked TooLong P = P
OnUnasked ReadFault P = P
OnUnasked answer P = Unit {0}

-- a fact for the answer that the text isn't a script
abbrev pub OnBadScript : Answer → (ScriptRefusal → Type 0) → Type 0
OnBadScript (BadScript refusal) P = P refusal
OnBadScript answer P = Unit {0}

-- a fact for the answer that the text is too long
abbrev pub OnTooLong : Answer → Type 0 → Type 0
OnTooLong TooLong P = P
OnTooLong answer P = Unit {0}

-- a fact for the answer that the image is too large: the image's bytes and the device's
abbrev pub OnTooLarge : Answer → (ℕ → ℕ → Type 0) → Type 0
OnTooLarge (TooLarge image device) P = P image device
OnTooLarge answer P = Unit {0}

-- a fact for the answer that the device didn't tell its length
abbrev pub OnDeviceFault : Answer → Type 0 → Type 0
OnDeviceFault DeviceFault P = P
OnDeviceFault answer P = Unit {0}

-- an answer that can come once a script was read
abbrev pub IsOfRun : Answer → Type 0
IsOfRun Usage = ⊥
IsOfRun (BadScript refusal) = ⊥
IsOfRun TooLong = ⊥
IsOfRun ReadFault = ⊥
IsOfRun answer = Unit {0}

-- an answer that can come once the device is known to hold the image
abbrev pub IsOfServing : Answer → Type 0
IsOfServing Done = Unit {0}
IsOfServing (Errors n) = Unit {0}
IsOfServing WriteFault = Unit {0}
IsOfServing NoMemory = Unit {0}
IsOfServing answer = ⊥

-- a fact for answers at which the script was served
abbrev pub OnRun : Answer → Type 0 → Type 0
OnRun Done P = P
OnRun (Errors n) P = P
OnRun WriteFault P = P
OnRun answer P = Unit {0}

-- the answer tells whether replies are errors, and how many
abbrev pub TellsErrors : Answer → List Placed → Type 0
TellsErrors Done served = errors_of served ≡ 0
TellsErrors (Errors n) served = (n ≡ errors_of served) × (0 < n)
TellsErrors answer served = Unit {0}

-- an answer to a text that is refused so
abbrev pub IsScriptRefusal : ScriptRefusal → Answer → Type 0
IsScriptRefusal refusal (BadScript told) = told ≡ refusal
IsScriptRefusal refusal NoMemory = Unit {0}
IsScriptRefusal refusal answer = ⊥

-- an answer to a text that is too long
abbrev pub IsLengthRefusal : Answer → Type 0
IsLengthRefusal TooLong = Unit {0}
IsLengthRefusal NoMemory = Unit {0}
IsLengthRefusal answer = ⊥

-- An answer to a script where nothing failed: each error is that of a request past the image's end, and an image that
-- is larger than the device is refused.
abbrev pub IsWholeAnswer : ℕ → ℕ → Answer → List Placed → Type 0
IsWholeAnswer image extent Done served = image ≤ extent
IsWholeAnswer image extent (Errors n) served = (image ≤ extent) × (eios_of served ≡ 0)
IsWholeAnswer image extent (TooLarge i d) served = (i ≡ image) × (d ≡ extent) × (extent < image)
IsWholeAnswer image extent NoMemory served = Unit {0}
IsWholeAnswer image extent answer served = ⊥

-- an answer that can come once the script was served
abbrev pub IsOfPrinting : Answer → Type 0
IsOfPrinting Done = Unit {0}
IsOfPrinting (Errors n) = Unit {0}
IsOfPrinting WriteFault = Unit {0}
IsOfPrinting answer = ⊥

-- why no text was read
abbrev pub FailsText : Option (List ℕ) → Option (List ℕ) → ℕ → ℕ → Answer → Type 0
FailsText before now faults_before faults_now ReadFault = HasRisen faults_before faults_now
FailsText before now faults_before faults_now TooLong = IsTooLong before now
FailsText before now faults_before faults_now NoMemory = Unit {0}
FailsText before now faults_before faults_now answer = ⊥

-- why no loop script was read
abbrev pub FailsReadingLoop : Option (List ℕ) → Option (List ℕ) → ℕ → ℕ → Answer → Type 0
FailsReadingLoop before now faults_before faults_now ReadFault = HasRisen faults_before faults_now
FailsReadingLoop before now faults_before faults_now (BadScript refusal) = RefusesLoop before now refusal
FailsReadingLoop before now faults_before faults_now TooLong = IsTooLong before now
FailsReadingLoop before now faults_before faults_now NoMemory = Unit {0}
FailsReadingLoop before now faults_before faults_now answer = ⊥

-- an answer to a loop script where nothing failed
abbrev pub LoopScriptIsDone : Answer → Type 0
LoopScriptIsDone Done = Unit {0}
LoopScriptIsDone NoMemory = Unit {0}
LoopScriptIsDone answer = ⊥

-- an answer that can come in the mode of loop scripts
abbrev pub IsOfLoop : Answer → Type 0
IsOfLoop (Errors n) = ⊥
IsOfLoop Usage = ⊥
IsOfLoop (TooLarge image device) = ⊥
IsOfLoop DeviceFault = ⊥
IsOfLoop answer = Unit {0}

-- why no script was read
abbrev pub FailsReading : Option (List ℕ) → Option (List ℕ) → ℕ → ℕ → Answer → Type 0
FailsReading before now faults_before faults_now ReadFault = HasRisen faults_before faults_now
FailsReading before now faults_before faults_now (BadScript refusal) = Refuses before now refusal
FailsReading before now faults_before faults_now TooLong = IsTooLong before now
FailsReading before now faults_before faults_now NoMemory = Unit {0}
FailsReading before now faults_before faults_now answer = ⊥
