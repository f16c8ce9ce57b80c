-- Document 01, 'The privacy rule', in its order: the rule's words, and the one claim.
pub mod Rule
pub mod Claim
