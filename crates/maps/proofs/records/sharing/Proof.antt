-- `maps::records::sharing` meets its contract: it makes a question and hands it to `ask`, which maps:Handing walks.
use mathlib.Core.Path.{refl}
use Prim.Native.Nat.{ℕ, ◌<◌, ◌^◌}
use mathlib.Core.List.{[], ◌∷◌}
use mir.Syntax.{w8, w64}
use mir.Val.{vint, vstruct, vnil, vcons}
use contract.Running.{tables, tables_of}
use denote.Laws.{Is}
use denote.Enum.Laws as EL
use denote.Triple.Spec.{triple_of}
use denote.Triple.Table.{entered}
use Rattle.maps.specs.declared.Question.TheVariants.{Sharing}
use Rattle.maps.specs.contracts.Question as Q
use Rattle.maps.proofs.Question.TheLaws as Q'
use Rattle.maps.proofs.records.ask.Met as ask-thm
use Rattle.maps.specs.contracts.records.sharing.Key.{name as #sharing}
use Rattle.maps.specs.contracts.records.sharing as sharing
use Rattle.maps.proofs.records.sharing.Statement as stated
use Rattle.maps.proofs.records.sharing.Code as code
use Rattle.maps.proofs.Handing.{hands_meets}

made : (first cells : ℕ) → first < 2 ^ 64 → cells < 2 ^ 64 → Is Q.the_row (Sharing first cells) (vstruct (vcons (vint w8 0) (vcons (vint w64 first) (vcons (vint w64 cells) vnil))) ∷ [])
made first cells gf gs = EL.owes Q.the_type Q'.the_laws (Sharing first cells) ((refl, gf), ((refl, gs), tt))

pub sharing_spec : {M : Type 1} → stated.statement M
unfolding tables_of
sharing_spec 𝓤 𝓛 𝓜 𝓡 wired =
    entered 𝓤 𝓛.H (triple_of 𝓛 sharing.signature (sharing.spec 𝓛 𝓜.mem 𝓡.returns))
    (tables 𝓤 𝓛.H 𝓜 𝓡 𝓡.env).C (tables 𝓤 𝓛.H 𝓜 𝓡 𝓡.env).Λ #sharing code.function (code.unfolded 𝓤 𝓛.H 𝓜 𝓡 wired)
    (hands_meets 0 tt Sharing made 𝓛 𝓜.mem 𝓡.returns (tables_of 𝓤 𝓛.H 𝓜 (tables 𝓤 𝓛.H 𝓜 𝓡 𝓡.env))
    (ask-thm.met 𝓤 𝓛 𝓜 𝓡 (code.calls-maps::records::ask 𝓡.env wired)))
