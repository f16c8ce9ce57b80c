-- Document 02, 2026-02: who moves what a principal has. A count of a page, up or down, moves only by a granted call of the principal's own
-- holder or by a destroy from above it; its unspent limit only by its own holder's calls, or as it is made or dropped. Assumes nothing.
use Rattle.std.specs.Prelude.{ℕ, true, false, ◌≡◌}
use Rattle.claims.specs.Claims.{Claims, in_being, holds, parent_of, unspent, count_of}
use Rattle.claims.specs.Tree.{LeadsUp}
use Rattle.calls.specs.declared.Call.{Call}
use Rattle.calls.specs.declared.Call.TheVariants.{Create, Claim, Release, Destroy}
use Rattle.calls.specs.Commands.{page}
use Rattle.machine.specs.Step.{Outcome}
use Rattle.histories.specs.Runs.{Machine, outcome, Reached}
use Rattle.histories.specs.Sharing.{claims_in, counts, LetsGo}

-- Who can move principal q's count of page k: a party that holds q, by a claim of the page; and who can let go of it.
pub data MovesCount (c : Claims) (q k : ℕ) : Call → Type 0 where
  counting : (party : ℕ) → holds c party q ≡ true → MovesCount c q k (Claim party q (page k))
  letting_go : {x : Call} → LetsGo c q k x → MovesCount c q k x

-- Who can move principal q's unspent limit. A party that holds q: by a create of a child under it, by the first claim of a page and by the
-- release of the last, and by the destroy of a child. The holder of a parent, by the create of q; and the holder of the parent of one to
-- which parents lead up from q, by its destroy.
pub data MovesUnspent (c : Claims) (q : ℕ) : Call → Type 0 where
  paying : (party child limit holder : ℕ) → holds c party q ≡ true → MovesUnspent c q (Create party q child limit holder)
  spending : (party k : ℕ) → holds c party q ≡ true → count_of c q k ≡ 0 → MovesUnspent c q (Claim party q (page k))
  regaining : (party k : ℕ) → holds c party q ≡ true → count_of c q k ≡ 1 → MovesUnspent c q (Release party q (page k))
  inheriting : (party child : ℕ) → parent_of c child ≡ q → holds c party q ≡ true → MovesUnspent c q (Destroy party child)
  made : (party parent limit holder : ℕ) → holds c party parent ≡ true → in_being c q ≡ false → MovesUnspent c q (Create party parent q limit holder)
  dropped : (party p : ℕ) → holds c party (parent_of c p) ≡ true → LeadsUp c p q → MovesUnspent c q (Destroy party p)

-- An outcome of a call leaves what principal q has as it was, or the call is granted and by one who can move it.
pub record HoldingLeft (m : Machine) (q : ℕ) (c : Call) (o : Outcome) : Type 0 where
  pub of_counts : (k : ℕ) → (count_of o.answer.state.core.claims q k ≡ counts m q k → ⊥) → (o.answer.code ≡ 0) × MovesCount (claims_in m) q k c
  pub of_unspent : (unspent o.answer.state.core.claims q ≡ unspent (claims_in m) q → ⊥) → (o.answer.code ≡ 0) × MovesUnspent (claims_in m) q c

-- After every history, of every principal and every call.
abbrev pub OnlyByHolders : Type 0
OnlyByHolders = (m : Machine) → Reached m → (q : ℕ) (c : Call) → HoldingLeft m q c (outcome m c)
