-- `maps::records::within` meets its contract: it makes a question and hands it to `ask`, which maps:Handing walks.
use mathlib.Core.Path.{refl}
use Prim.Native.Nat.{ℕ, ◌<◌, ◌^◌}
use mathlib.Core.List.{[], ◌∷◌}
use mir.Syntax.{w8, w64}
use mir.Val.{vint, vstruct, vnil, vcons}
use contract.Running.{tables, tables_of}
use denote.Laws.{Is}
use denote.Enum.Laws as EL
use denote.Triple.Spec.{triple_of}
use denote.Triple.Table.{entered}
use Rattle.maps.specs.declared.Question.TheVariants.{Within}
use Rattle.maps.specs.contracts.Question as Q
use Rattle.maps.proofs.Question.TheLaws as Q'
use Rattle.maps.proofs.records.ask.Met as ask-thm
use Rattle.maps.specs.contracts.records.within.Key.{name as #within}
use Rattle.maps.specs.contracts.records.within as within
use Rattle.maps.proofs.records.within.Statement as stated
use Rattle.maps.proofs.records.within.Code as code
use Rattle.maps.proofs.Handing.{hands_meets}

made : (first cells : ℕ) → first < 2 ^ 64 → cells < 2 ^ 64 → Is Q.the_row (Within first cells) (vstruct (vcons (vint w8 1) (vcons (vint w64 first) (vcons (vint w64 cells) vnil))) ∷ [])
made first cells gf gs = EL.owes Q.the_type Q'.the_laws (Within first cells) ((refl, gf), ((refl, gs), tt))

pub within_spec : {M : Type 1} → stated.statement M
unfolding tables_of
within_spec 𝓤 𝓛 𝓜 𝓡 wired =
    entered 𝓤 𝓛.H (triple_of 𝓛 within.signature (within.spec 𝓛 𝓜.mem 𝓡.returns))
    (tables 𝓤 𝓛.H 𝓜 𝓡 𝓡.env).C (tables 𝓤 𝓛.H 𝓜 𝓡 𝓡.env).Λ #within code.function (code.unfolded 𝓤 𝓛.H 𝓜 𝓡 wired)
    (hands_meets 1 tt Within made 𝓛 𝓜.mem 𝓡.returns (tables_of 𝓤 𝓛.H 𝓜 (tables 𝓤 𝓛.H 𝓜 𝓡 𝓡.env))
    (ask-thm.met 𝓤 𝓛 𝓜 𝓡 (code.calls-maps::records::ask 𝓡.env wired)))
