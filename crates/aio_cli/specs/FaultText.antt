-- What standard error gets of an answer: one line, and none where the script was served and all was written.
use Rattle.std.specs.Prelude.{ℕ, List, [], ◌++◌, codes, decimal}
use Rattle.aio_script.specs.declared.refusals.ScriptRefusal.{ScriptRefusal}
use Rattle.aio_script.specs.declared.refusals.ScriptRefusal.TheVariants.{BadLine, BadNumber, OutOfLimit, UnknownStream, NoHeader}
use Rattle.aio_cli.specs.declared.answer.Answer.{Answer}
use Rattle.aio_cli.specs.declared.answer.Answer.TheVariants.{Done, Errors, Usage, BadScript, TooLong, TooLarge, ReadFault, WriteFault, NoMemory, DeviceFault}

-- what is wrong with the line of this number
abbrev pub line_fault : ℕ → List ℕ → List ℕ
line_fault line fault = codes "script: line " ++ (decimal line ++ fault)

-- why the text isn't a script
abbrev pub refusal_text : ScriptRefusal → List ℕ
refusal_text (BadLine line) = line_fault line (codes ": bad line\n")
refusal_text (BadNumber line) = line_fault line (codes ": bad number\n")
refusal_text (OutOfLimit line) = line_fault line (codes ": out of limit\n")
refusal_text (UnknownStream line) = line_fault line (codes ": unknown stream\n")
refusal_text NoHeader = codes "script: no header\n"

-- the image's bytes and the device's, which are fewer
abbrev pub sizes_text : ℕ → ℕ → List ℕ
sizes_text image device = codes "image: " ++ (decimal image ++ (codes " bytes asked, device has " ++ (decimal device ++ codes "\n")))

abbrev pub fault_text : Answer → List ℕ
fault_text Done = []
fault_text (Errors n) = []
fault_text Usage = codes "usage: aioloops [--mode=run or bh] [--gen=N] [--from=M] [--image=PATH]\n"
fault_text (BadScript refusal) = refusal_text refusal
fault_text TooLong = codes "script: longer than 1048576 bytes\n"
fault_text (TooLarge image device) = sizes_text image device
fault_text ReadFault = codes "script: read fault\n"
fault_text WriteFault = codes "output: write fault\n"
fault_text NoMemory = codes "out of memory\n"
fault_text DeviceFault = codes "image: device fault\n"
