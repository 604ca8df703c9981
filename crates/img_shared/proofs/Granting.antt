-- A phase and its stream's hold stay together, as others grant holds.
use Rattle.std.proofs.Common.{◌≡◌, ℕ, ◌⊎◌, inl, inr, Option, refl, sym, ap, subst, ◌∙◌}
use Rattle.aio_model.specs.declared.holds.Hold.{Hold}
use Rattle.aio_model.specs.declared.holds.Hold.TheVariants.{Free, Reads, Writes, WaitsRead, WaitsWrite}
use Rattle.aio_model.specs.Holds.{Has, HasTicket, OnlyGranted, granted, after_wake}
use Rattle.aio_model.proofs.Granted.{only_granted}
use Rattle.img_requests.specs.declared.present.Present.{Present}
use Rattle.img_requests.specs.declared.present.RequestKind.{RequestKind}
use Rattle.img_requests.specs.declared.present.RequestKind.TheVariants.{Read, Write, Zero, Flush}
use Rattle.img_shared.specs.declared.phases.Phase.{Phase}
use Rattle.img_shared.specs.declared.phases.Phase.TheVariants.{Idle, Waiting, Active, Retired}
use Rattle.img_shared.specs.Phases.{Linked, Writing, IsWaiting, held_by, hold_awaited}

pub has_held : (kind : RequestKind) → Has (held_by kind)
has_held Read = tt
has_held Write = tt
has_held Zero = tt
has_held Flush = tt

waits_lacks : (kind : RequestKind) → Has (hold_awaited kind) → ⊥
waits_lacks Read h = h
waits_lacks Write h = h
waits_lacks Zero h = h
waits_lacks Flush h = h

held_not_waits : (kind : RequestKind) → HasTicket (held_by kind) → ⊥
held_not_waits Read h = h
held_not_waits Write h = h
held_not_waits Zero h = h
held_not_waits Flush h = h

pub same_granted : (old new : Hold) → new ≡ old → OnlyGranted old new
same_granted old new e = inl e

pub woken_granted : (woken : Option ℕ) (j : ℕ) (old new : Hold) → new ≡ after_wake woken j old → OnlyGranted old new
woken_granted woken j old new e = subst (OnlyGranted old) (sym e) (only_granted woken j old)

granted_waits : (kind : RequestKind) → granted (hold_awaited kind) ≡ held_by kind
granted_waits Read = refl
granted_waits Write = refl
granted_waits Zero = refl
granted_waits Flush = refl

granted_held : (kind : RequestKind) → granted (held_by kind) ≡ held_by kind
granted_held Read = refl
granted_held Write = refl
granted_held Zero = refl
granted_held Flush = refl

free_kept : (old new : Hold) → old ≡ Free → OnlyGranted old new → new ≡ Free
free_kept old new free (inl e) = e ∙ free
free_kept old new free (inr e) = e ∙ ap granted free

held_kept : (kind : RequestKind) (old new : Hold) → old ≡ held_by kind → OnlyGranted old new → new ≡ held_by kind
held_kept kind old new held (inl e) = e ∙ held
held_kept kind old new held (inr e) = e ∙ ap granted held ∙ granted_held kind

waits_kept : (kind : RequestKind) (old new : Hold) → old ≡ hold_awaited kind → OnlyGranted old new → (new ≡ hold_awaited kind) ⊎ (new ≡ held_by kind)
waits_kept kind old new waits (inl e) = inl (e ∙ waits)
waits_kept kind old new waits (inr e) = inr (e ∙ ap granted waits ∙ granted_waits kind)

pub linked_kept : (phase : Phase) (old new : Hold) → Linked phase old → OnlyGranted old new → Linked phase new
linked_kept Idle old new linked only = free_kept old new linked only
linked_kept (Waiting p) old new (inl e) only = waits_kept p.kind old new e only
linked_kept (Waiting p) old new (inr e) only = inr (held_kept p.kind old new e only)
linked_kept (Active p) old new linked only = held_kept p.kind old new linked only
linked_kept Retired old new linked only = free_kept old new linked only

pub linked_taken : (present : Present) (old new : Hold) → Linked (Waiting present) old → Has old → OnlyGranted old new → Linked (Active present) new
linked_taken present old new (inl e) has only = absurd (waits_lacks present.kind (subst Has e has))
linked_taken present old new (inr e) has only = held_kept present.kind old new e only

pub writes_held : (phase : Phase) (hold : Hold) → Linked phase hold → Writing phase → hold ≡ Writes
writes_held Idle hold linked writes = absurd writes
writes_held (Waiting p) hold linked writes = absurd writes
writes_held (Active p) hold linked writes = linked ∙ writes
writes_held Retired hold linked writes = absurd writes

-- who has a ticket is queued
pub ticket_waits : (phase : Phase) (hold : Hold) → Linked phase hold → HasTicket hold → IsWaiting phase
ticket_waits Idle hold linked waits = subst HasTicket linked waits
ticket_waits (Waiting p) hold linked waits = tt
ticket_waits (Active p) hold linked waits = held_not_waits p.kind (subst HasTicket linked waits)
ticket_waits Retired hold linked waits = subst HasTicket linked waits

pub reads_or_writes : (kind : RequestKind) → (held_by kind ≡ Reads) ⊎ (held_by kind ≡ Writes)
reads_or_writes Read = inl refl
reads_or_writes Flush = inl refl
reads_or_writes Write = inr refl
reads_or_writes Zero = inr refl

pub reads_not_writes : (hold : Hold) → hold ≡ Reads → hold ≡ Writes → ⊥
reads_not_writes hold r w = cc (sym r ∙ w)

pub has_not_waits : (hold : Hold) → Has hold → HasTicket hold → ⊥
has_not_waits Free has waits = has
has_not_waits WaitsRead has waits = has
has_not_waits WaitsWrite has waits = has
has_not_waits Reads has waits = waits
has_not_waits Writes has waits = waits
