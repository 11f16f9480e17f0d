-- A pointer that may be null, as a link: null leads nowhere.
use Rattle.std.specs.Prelude.{◌≡◌, refl, Option, Some, None}
use denote.RawPtr.{Ptr, block_ptr, null_ptr, InBlock, Testable}

-- where it leads
abbrev pub link_of : Ptr → Option Ptr
link_of (block_ptr b o) = Some (block_ptr b o)
link_of null_ptr = None

-- the pointer that is stored for a link
abbrev pub pointer_of : Option Ptr → Ptr
pointer_of None = null_ptr
pointer_of (Some p) = p

-- a place that a link can lead to: it is not null, and may be compared with null
abbrev pub IsPlace : Ptr → Type 0
IsPlace p = InBlock p × Testable p

pub pointer_of-link_of : (p : Ptr) → pointer_of (link_of p) ≡ p
pointer_of-link_of (block_ptr b o) = refl
pointer_of-link_of null_ptr = refl

pub link_of-place : (p : Ptr) → InBlock p → link_of p ≡ Some p
link_of-place (block_ptr b o) h = refl
link_of-place null_ptr h = absurd h
