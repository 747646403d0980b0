-- What the pointer of a handle or of a block owns. No public clause cites this module.
use Rattle.std.specs.Prelude.{Option, Some, None}
use mir.Syntax.{Ty}
use base.Fml.{Fml, ftrue, ffalse}
use denote.RattleType.{RattleType}
use denote.RawPtr.{Ptr, block_ptr, null_ptr}
use Rattle.std_alloc.specs.Box.Ownership.{box_owns}
use Rattle.bytes.specs.contracts.shared.Bytes.{the_row}
use Rattle.std_heap.specs.contracts.Global as global_heap
use Rattle.std_heap.specs.declared.Global.{Global}
use Rattle.std_heap.specs.contracts.GlobalAllocator.TheImpl.{ghosts}

-- the C library's heap
abbrev pub heap : Global
heap = record { memory = record { seal = tt } }

-- the right to free a block of the heap
abbrev pub may_free : Ty → Ptr → Fml
may_free = ghosts.dealloc_token heap

-- nothing at null, and at any other pointer a value on the heap and the right to free it
abbrev pub held : (R : RattleType) → Ptr → Option R.Denot → Fml
held R null_ptr None = ftrue
held R null_ptr (Some value) = ffalse
held R (block_ptr block offset) None = ffalse
held R (block_ptr block offset) (Some value) = box_owns may_free R (block_ptr block offset) value

-- bytes on the heap that may have several owners
abbrev pub bytes_row : RattleType
bytes_row = the_row global_heap.the_row ghosts
