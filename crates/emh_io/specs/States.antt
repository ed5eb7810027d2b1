use Rattle.std.specs.Prelude.{ℕ, List, Bool, Option}
use Rattle.emh_io.specs.Files.{Files}

-- a shelf in memory: its files, which of the coming fetches and stores are to fail, how many of each failed, and the
-- name of the last call that did
pub record ShelfState : Type 0 where
  pub files : Files
  pub coming : List Bool
  pub coming_stores : List Bool
  pub faults : ℕ
  pub store_faults : ℕ
  pub failed : Option (List ℕ)

-- a sink in memory: the most bytes of a put, what was written, which of the coming puts are to fail, how many failed
pub record SinkState : Type 0 where
  pub most : ℕ
  pub written : List ℕ
  pub coming : List Bool
  pub faults : ℕ

-- a sink in memory that never fails: the most bytes of a put, and what was written
pub record SureSinkState : Type 0 where
  pub most : ℕ
  pub written : List ℕ

-- a shelf of real files: how many fetches and how many stores failed, how many bytes were read, and the name of the last
-- call that failed
pub record FileShelfState : Type 0 where
  pub faults : ℕ
  pub store_faults : ℕ
  pub taken : ℕ
  pub failed : Option (List ℕ)

-- a sink over a writer: what the writer holds, where it tells that, and how many puts failed
pub record OutSinkState : Type 0 where
  pub contents : Option (List ℕ)
  pub faults : ℕ
