-- What becomes of a handle or a block if what is behind its pointer is reached in its place.
use Rattle.std.specs.Prelude.{ℕ, List, Some}
use Rattle.std.specs.Borrow.{Lends, MutBor, Fml}
use Rattle.ob_connection.specs.Connected.{Connected}
use Rattle.ob_connection.specs.contracts.connection.Connection.{the_row as connection_row}
use Rattle.ob_covered.specs.Budgeted.{BudgetedValue}
use Rattle.ob_covered.specs.Cover.{CoverValue}
use Rattle.ob_covered.specs.contracts.budgeted.Budgeted.{the_row as covered_row}
use Rattle.ob_covered.specs.contracts.cover.Cover.{the_row as cover_row}
use Rattle.ob_lifecycle.specs.Managed.{Managed as ManagedValue}
use Rattle.ob_lifecycle.specs.contracts.managed.ManagedConnection.{the_row as inner_row}
use Rattle.ob_shared_connection.specs.Values.{HandleValue}
use Rattle.ob_shared_connection.specs.contracts.handle.Handle.{the_row as sharer_row}
use Rattle.ob_shared_connection.specs.contracts.transport.Transport.{the_row as sender_row}
use Rattle.ob_c.specs.Held.{bytes_row}
use Rattle.ob_c.specs.declared.block.Block.{Block}
use Rattle.ob_c.specs.declared.budget.Budget.{Budget}
use Rattle.ob_c.specs.declared.budgeted.Budgeted.{Budgeted}
use Rattle.ob_c.specs.declared.handle.Handle.{Handle}
use Rattle.ob_c.specs.declared.managed.Managed.{Managed}
use Rattle.ob_c.specs.declared.shared.Shared.{Shared}
use Rattle.ob_c.specs.declared.transport.Transport.{Transport}
use Rattle.ob_c.specs.contracts.budget.Budget.{the_row as budget_row}
use Rattle.ob_c.specs.contracts.budgeted.Budgeted.{the_row as budgeted_row}
use Rattle.ob_c.specs.contracts.transport.Transport.{the_row as transport_row}
use Rattle.ob_c.specs.contracts.managed.Managed.{the_row as managed_row}
use Rattle.ob_c.specs.contracts.shared.Shared.{the_row as shared_row}
use Rattle.ob_c.specs.contracts.block.Block.{the_row as block_row}
use Rattle.ob_c.specs.contracts.handle.Handle.{the_row as handle_row}

-- a handle at the same place, with this connection behind it
abbrev pub handle_with : Handle → Connected → Handle
handle_with handle connection = record { at = handle.at; value = Some connection }

-- the handle ends with what was left behind the reference
abbrev pub LendsConnection : MutBor Handle → MutBor Connected → Fml
LendsConnection handle connection = Lends handle_row connection_row handle connection (handle_with handle.now)

-- a block at the same place, with these bytes behind it
abbrev pub block_with : Block → List ℕ → Block
block_with block bytes = record { at = block.at; value = Some bytes }

-- the block ends with what was left behind the reference
abbrev pub LendsBytes : MutBor Block → MutBor (List ℕ) → Fml
LendsBytes block bytes = Lends block_row bytes_row block bytes (block_with block.now)

-- what C holds of a shared connection at the same place, with this handle behind it
abbrev pub shared_with : Shared → HandleValue → Shared
shared_with shared handle = record { at = shared.at; value = Some handle }

-- and it ends with what was left behind the reference
abbrev pub LendsShared : MutBor Shared → MutBor HandleValue → Fml
LendsShared shared handle = Lends shared_row sharer_row shared handle (shared_with shared.now)

-- what C holds of the handle that sends at the same place, with this handle behind it
abbrev pub transport_with : Transport → HandleValue → Transport
transport_with transport handle = record { at = transport.at; value = Some handle }

-- and it ends with what was left behind the reference
abbrev pub LendsTransport : MutBor Transport → MutBor HandleValue → Fml
LendsTransport transport handle = Lends transport_row sender_row transport handle (transport_with transport.now)

-- what C holds of a managed connection at the same place, with this one behind it
abbrev pub managed_with : Managed → ManagedValue → Managed
managed_with managed connection = record { at = managed.at; value = Some connection }

-- and it ends with what was left behind the reference
abbrev pub LendsManaged : MutBor Managed → MutBor ManagedValue → Fml
LendsManaged managed connection = Lends managed_row inner_row managed connection (managed_with managed.now)

-- what C holds of a budget at the same place, with this cover behind it
abbrev pub budget_with : Budget → CoverValue → Budget
budget_with budget cover = record { at = budget.at; value = Some cover }

-- and it ends with what was left behind the reference
abbrev pub LendsCover : MutBor Budget → MutBor CoverValue → Fml
LendsCover budget cover = Lends budget_row cover_row budget cover (budget_with budget.now)

-- what C holds of a connection that a budget covers at the same place, with this one behind it
abbrev pub budgeted_with : Budgeted → BudgetedValue → Budgeted
budgeted_with budgeted connection = record { at = budgeted.at; value = Some connection }

-- and it ends with what was left behind the reference
abbrev pub LendsBudgeted : MutBor Budgeted → MutBor BudgetedValue → Fml
LendsBudgeted budgeted connection = Lends budgeted_row covered_row budgeted connection (budgeted_with budgeted.now)
