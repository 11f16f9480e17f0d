-- What a fault's status says of the reader and of the writer.
use Rattle.std.proofs.Common.{◌≡◌, ◌≤◌, ◌⊎◌, ℕ, Bool, true, false, Option, Err, refl, inl, inr, arith}
use Rattle.std.specs.declared.io.Error.{Error}
use Rattle.dom_serve.specs.{declared.fault.Fault.Fault, declared.fault.Fault.TheVariants.Read, declared.fault.Fault.TheVariants.Write, declared.fault.Fault.TheVariants.Memory, declared.fault.Fault.TheVariants.InputTooLong, declared.fault.Summary.Summary, Output.is_read_fault, Output.is_write}
use Rattle.domserve.specs.{Messages.is_silent, Statuses.status_at, Statuses.fault_exit_status, Statuses.IsFailure, Statuses.ReportsFailedRead, Statuses.ReportsFailedWrite}

-- a failed write has a status of failures, silent or not
write-fails : (silent : Bool) (status : ℕ) → status ≡ status_at silent Write → IsFailure status
write-fails true status e = inr e
write-fails false status e = inl e

pub failed-write : (reason : Option Error) (status : ℕ) → status ≡ fault_exit_status Write reason → IsFailure status
failed-write reason status e = write-fails (is_silent Write reason) status e

pub range-told : (fault : Fault) (reason : Option Error) (status : ℕ) → status ≡ fault_exit_status fault reason → (status ≤ 1) ⊎ IsFailure status
range-told Read reason status e = inr (inl e)
range-told Write reason status e = inr (failed-write reason status e)
range-told Memory reason status e = let one : status ≡ 1 = e in inl (omega (arith, one))
range-told InputTooLong reason status e = inr (inl e)

pub reader-told : (fault : Fault) (reason : Option Error) (status : ℕ) (calls : Bool → Type 0)
    → status ≡ fault_exit_status fault reason → calls (is_read_fault {T = Summary} (Err fault)) → ReportsFailedRead status calls
reader-told Read reason status calls e c = inr (e, c)
reader-told Write reason status calls e c = inl c
reader-told Memory reason status calls e c = inl c
reader-told InputTooLong reason status calls e c = inl c

pub writer-told : (fault : Fault) (reason : Option Error) (status : ℕ) (calls : Bool → Type 0)
    → status ≡ fault_exit_status fault reason → calls (is_write fault) → ReportsFailedWrite status calls
writer-told Read reason status calls e c = inl c
writer-told Write reason status calls e c = inr (failed-write reason status e, c)
writer-told Memory reason status calls e c = inl c
writer-told InputTooLong reason status calls e c = inl c

-- what holds if the writer did not fail holds unless the status is one of failures
pub passed-told : (fault : Fault) (reason : Option Error) (status : ℕ) (P : Type 0)
    → status ≡ fault_exit_status fault reason → (is_write fault ≡ false → P) → (IsFailure status → ⊥) → P
passed-told Read reason status P e p other = p refl
passed-told Write reason status P e p other = absurd (other (failed-write reason status e))
passed-told Memory reason status P e p other = p refl
passed-told InputTooLong reason status P e p other = p refl

-- no fault has the status of success
pub not-zero : (fault : Fault) (reason : Option Error) → fault_exit_status fault reason ≡ 0 → ⊥
not-zero Read reason h = let e : 3 ≡ 0 = h in omega (arith, e)
not-zero Write reason h = go (is_silent Write reason) h
  where
    go : (silent : Bool) → status_at silent Write ≡ 0 → ⊥
    go true h = let e : 141 ≡ 0 = h in omega (arith, e)
    go false h = let e : 3 ≡ 0 = h in omega (arith, e)
not-zero Memory reason h = let e : 1 ≡ 0 = h in omega (arith, e)
not-zero InputTooLong reason h = let e : 3 ≡ 0 = h in omega (arith, e)
