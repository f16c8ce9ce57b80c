-- The core: what no party's data enters. Assumes nothing.
use Rattle.std.specs.Prelude.{ℕ}
use Rattle.pages.specs.Pages.{Pages}
use Rattle.table.specs.Table.{Table}
use Rattle.claims.specs.Claims.{Claims}

-- The page layer, the table, the place that the sweep has reached, and the claims on pages.
pub record Core : Type 0 where
  pub pages : Pages
  pub table : Table
  pub place : ℕ
  pub claims : Claims

-- A core from all its parts: a fresh start has them so, and arrays that are read.
abbrev pub core : Pages → Table → ℕ → Claims → Core
core pages table place claims = record { pages = pages; table = table; place = place; claims = claims }

-- A call names what it changes of a core; the other parts stay.
abbrev pub with_pages : Core → Pages → Core
with_pages c pages = core pages c.table c.place c.claims

abbrev pub with_table : Core → Table → Core
with_table c table = core c.pages table c.place c.claims

abbrev pub with_place : Core → ℕ → Core
with_place c place = core c.pages c.table place c.claims

abbrev pub with_claims : Core → Claims → Core
with_claims c claims = core c.pages c.table c.place claims

-- 05 and 07 change pages and table, and no cell is swept: "sweep place 0".
abbrev pub unswept : Core → Pages → Table → Core
unswept c pages table = with_place (with_table (with_pages c pages) table) 0

-- What revoke and collect answer: 0 or the refusal's number, and the core after it.
pub record Cored : Type 0 where
  pub code : ℕ
  pub core : Core
